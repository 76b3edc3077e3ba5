use Rattle.std.proofs.Common.{◌∙◌, ap, length, refl, subst, sym, Some}
use Rattle.std.proofs.lemmas.Result.{err_from_is_err_and}
use Rattle.m161_judge.specs.Memory.{IsReachOf, ReachMemory}
use Rattle.m161_judge.proofs.Keeping.{sought_fails, sought_on}
use Rattle.m161_judge.proofs.seeker.Seeker.seek_on.Goals as goal

pub returns-in_err-sought : goal.returns-in_err-sought
returns-in_err-sought g c = λ s begun rest parts h.
    let p = err_from_is_err_and c.from_residual.result c.from_residual.ensures.1 in
    let old : ReachMemory = record { core = c.self.inside.core.state; made = c.self.inside.made; sought = c.self.inside.sought } in
    let is = ap (λ (m : ReachMemory). m.sought) c.self.view_is ∙ c.requires in
    let before = subst (λ m. IsReachOf c.args.never.now s begun (Some m)) (sym c.self.view_is) h in
    rw p.1
    (sought_fails c.args.never.now c.args.events.now old p.0 is (λ t made. p.2 ∙ c.in_err-sought.ensures.found t made) s begun rest parts before)

pub returns : goal.returns
returns g c = λ s begun rest parts h.
    let old : ReachMemory = record { core = c.self.inside.core.state; made = c.self.inside.made; sought = c.self.inside.sought } in
    let new : ReachMemory = record { core = c.reach_from.new.core.state; made = length c.args.events.now; sought = c.in_ok-sought.field-0 } in
    let is = ap (λ (m : ReachMemory). m.sought) c.self.view_is ∙ c.requires in
    let before = subst (λ m. IsReachOf c.args.never.now s begun (Some m)) (sym c.self.view_is) h in
    sought_on c.args.never.now c.args.events.now old new is refl c.in_ok-sought.ensures.found s begun rest parts before
