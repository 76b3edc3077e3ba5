use Rattle.std.proofs.Common.{◌≡◌, ◌∙◌, subst, sym, true, IfOk}
use Rattle.m161_states.specs.Question.{Question}
use Rattle.m161_states.specs.System.{Explored}
use Rattle.m161_reach.specs.From.{IsFreeFrom, asked_of}
use Rattle.m161_reach.specs.Reach.{IsMet}
use Rattle.m161_reach.specs.helpers.MetFrom.{origin_met}
use Rattle.m161_reach.proofs.hang.is_free_soon.Goals as goal

pub is_free_along-requires : goal.is_free_along-requires
is_free_along-requires g c =
    let q = asked_of c.args.boot.now.state c.args.goal.now in
    let copy = c.in_ok-copy.copy in
    subst (λ (r : Question). IsMet r copy) (sym c.untimed-machines.ensures)
    (subst (IsMet q) (sym (c.in_ok-copy.ensures ∙ c.requires.from)) (origin_met q c.args.events.now))

pub returns : goal.returns
returns g c =
    let q = asked_of c.args.boot.now.state c.args.goal.now in
    let limit = c.args.limit in
    let copy = c.in_ok-copy.copy in
    let r = c.is_free_along.result in
    subst (λ (x : Explored). IfOk r (λ free. free ≡ true → IsFreeFrom q limit x)) c.in_ok-copy.ensures
    (subst (λ (asked : Question). IfOk r (λ free. free ≡ true → IsFreeFrom asked limit copy)) c.untimed-machines.ensures c.is_free_along.ensures)
