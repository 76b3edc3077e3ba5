use Rattle.std.proofs.Common.{◌∙◌, ap}
use Rattle.m161_order.specs.Delays.{delays_of}
use Rattle.m161_drive.specs.declared.orders.OrderState.TheVariants.{ByDelays}
use Rattle.m161_drive.specs.helpers.Drive.{gone_on}
use Rattle.m161_drive.proofs.Planned.{delays_gone}
use Rattle.m161_drive.proofs.delayed.DelayedTurns.go_on.Goals as goal

pub returns : goal.returns
returns c =
    (λ i. ByDelays (record { turns = c.go_on.new.self; left = c.pass.ensures i }))
    ∙ delays_gone c.args.more c.self.inside.turns c.go_on.new.self (delays_of c.self.inside.left) c.go_on.ensures
    ∙ ap (λ d. gone_on c.args.more (ByDelays d)) c.self.view_is
