use Rattle.std.proofs.Common.{rules, ◌≡◌, ◌≢◌, ◌∷◌, arith}
use Rattle.std.proofs.lemmas.Bool.Decides.{nat_tests}
use Rattle.m161_steplog.proofs.Blocks.{ends_empty, ends_alone, ends_before, ends_other, ends_full}
use Rattle.m161_steplog.proofs.written.joined.Goals as goal
use Rattle.m161_steplog.proofs.written.joined.Goals.{then-p-q-via-then-p-q, then-p-q-via-else-p-q+then-count-eq-MOST_STEPS}

pub returns-in_default : goal.returns-in_default
returns-in_default c = record {
  joins = λ es. ends_empty c.args.item (c.args.event ∷ es) c.in_default.not-Repeated;
  fits = search rules;
}

pub returns-in_default-last : goal.returns-in_default-last
returns-in_default-last c = record {
  joins = λ es. ends_alone c.args.item c.in-Repeated.last c.in-Repeated.count (c.args.event ∷ es) c.in-Repeated.is c.requires c.in_default-last.not-Step;
  fits = search rules;
}

pub returns-in_default-event : goal.returns-in_default-event
returns-in_default-event c = record {
  joins = λ es. ends_before c.args.item c.in-Repeated.last c.args.event c.in-Step.p c.in-Repeated.count es c.in-Repeated.is c.in-Step.is c.requires c.in_default-event.not-Step;
  fits = search rules;
}

pub returns-then-p-q-clause-joins : goal.returns-then-p-q-clause-joins
returns-then-p-q-clause-joins c = λ es. elim c.then-p-q.branch [
  | then-p-q-via-then-p-q w ↦
      let other : c.in-Step.p ≢ c.in-Step-event.q = grind (arith, nat_tests) in
      ends_other c.args.item c.in-Repeated.last c.args.event c.in-Step.p c.in-Step-event.q c.in-Repeated.count es c.in-Repeated.is c.in-Step.is c.in-Step-event.is c.requires other
  | then-p-q-via-else-p-q+then-count-eq-MOST_STEPS w ↦
      let full : c.in-Repeated.count ≡ 1_000_000 = grind (arith, nat_tests) in
      ends_full c.args.item c.in-Repeated.last c.in-Step.p c.in-Repeated.count (c.args.event ∷ es) c.in-Repeated.is c.in-Step.is full
]
