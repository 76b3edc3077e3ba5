use Rattle.std.proofs.Common.{◌∙◌, subst, sym}
use Rattle.m161_reach.specs.Told.{TellsOf}
use Rattle.s161_search.specs.helpers.Inputs.{given_of}
use Rattle.s161_search.proofs.Telling.{hang_judged}
use Rattle.s161_search.proofs.again.HangJudgeJudge.judge.Goals as goal

pub returns-clause-verdict : goal.returns-clause-verdict
returns-clause-verdict c =
    let self = c.args.self.now in
    let judged = c.in_ok-judged.judged in
    let told = c.in_ok-told.told in
    hang_judged self.booted.now self.ends.now self.few (given_of self.inputs.now) self.first.now c.args.events.now
    c.in_ok-all.all.items c.deref.result.now judged told c.hang_behind.result c.deref.ensures.value c.in_ok-all.ensures c.in_ok-judged.ensures
    (subst (λ es. TellsOf self.few self.ends.now es judged told) (c.deref-2.ensures.value ∙ sym c.deref.ensures.value) c.in_ok-told.ensures) c.hang_behind.ensures
