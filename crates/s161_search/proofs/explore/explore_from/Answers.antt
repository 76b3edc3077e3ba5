use Rattle.std.proofs.Common.{◌∙◌, List, ℕ, string_bytes, subst, sym}
use Rattle.m161_explore.specs.Answers.{Answers}
use Rattle.m161_judge.specs.Verdict.{Criteria}
use Rattle.m161_machine.specs.History.{IsBootState}
use Rattle.m161_reach.specs.Reach.{IsLearnt, question_of, rules_of}
use Rattle.m161_stores.specs.Stores.{TellsStores}
use Rattle.s161_search.specs.Explores.{PrintsAnswer}
use Rattle.s161_search.specs.Notes.{Notes}
use Rattle.s161_search.specs.helpers.Inputs.{given_of}
use Rattle.s161_search.proofs.Booting.{begins}
use Rattle.s161_search.proofs.explore.explore_from.Goals as goal

pub can_be_asked-requires : goal.can_be_asked-requires
can_be_asked-requires c =
    let boot = begins (given_of c.args.inputs.now) c.args.booted.now c.requires.booted in
    (boot.start, c.in_ok-core.ensures ∙ boot.state_is)

pub returns-clause-ok : goal.returns-clause-ok
returns-clause-ok c =
    let given = given_of c.args.inputs.now in
    let boot = c.in_ok-core.core.state in
    let found = c.in_ok-found.found in
    let done = c.in_ok-print_answer.field-0 in
    record {
      good = c.in_ok-check_watches.ensures.good;
      boot = boot;
      is_boot =
          subst (IsBootState given.file given.conf) (sym c.in_ok-core.ensures)
          (begins given c.args.booted.now c.requires.booted);
      known = found.known;
      learnt = subst (λ (k : Criteria). IsLearnt (question_of boot k found.known)) c.goal-goal.ensures c.in_ok-found.ensures.learnt;
      answer = found.answer;
      answers = subst (λ (k : Criteria). Answers (rules_of (question_of boot k found.known)) c.args.limit found.answer) c.goal-goal.ensures c.in_ok-found.ensures.answers;
      prints =
          subst (λ (ks : List ℕ). PrintsAnswer given.conf c.args.limit ks found.answer done.text.items done.status) c.deref.ensures.value
          c.in_ok-print_answer.ensures.prints;
      notes = subst (λ (k : Criteria). Notes (TellsStores (question_of boot k found.known) found.answer) k.watches (string_bytes c.explore_core.new.said)) c.goal-goal.ensures c.in_ok-found.ensures.said;
    }
