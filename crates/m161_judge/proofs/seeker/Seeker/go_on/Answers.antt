use Rattle.std.proofs.Common.{length, refl, subst, sym, Some}
use Rattle.m161_judge.specs.Memory.{IsReachOf, ReachMemory}
use Rattle.m161_judge.proofs.Keeping.{sought_over}
use Rattle.m161_judge.proofs.seeker.Seeker.go_on.Goals as goal

pub returns-in-Over : goal.returns-in-Over
returns-in-Over g c = λ s begun rest parts h.
    let old : ReachMemory = record { core = c.self.inside.core.state; made = c.self.inside.made; sought = c.self.inside.sought } in
    let new : ReachMemory = record { core = c.self.inside.core.state; made = length c.args.events.now; sought = c.self.inside.sought } in
    let before = subst (λ m. IsReachOf c.args.never.now s begun (Some m)) (sym c.self.view_is) h in
    sought_over c.args.never.now c.args.events.now old new c.in-Over.field-0 c.in-Over.is refl refl s begun rest parts before
