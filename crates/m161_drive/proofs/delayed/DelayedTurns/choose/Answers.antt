use Rattle.std.proofs.Common.{ap, sym, ℕ}
use Rattle.std.specs.Prelude.{Option}
use Rattle.m161_drive.specs.declared.orders.OrderState.TheVariants.{InTurns}
use Rattle.m161_drive.specs.declared.turns.Turns.{Turns}
use Rattle.m161_drive.proofs.Fitting.{order_ready}
use Rattle.m161_drive.proofs.delayed.DelayedTurns.choose.Goals as goal

pub passed-chosen-requires : goal.passed-chosen-requires
passed-chosen-requires g c =
    order_ready (InTurns c.self.inside.turns) c.args.last c.args.core.now.state c.in-Some.p (ap (λ (x : Option ℕ × Turns). x.0) (sym c.in-Some.ensures))
