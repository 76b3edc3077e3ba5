use Rattle.std.proofs.Common.{◌≡◌, ◌∙◌, ap, sym, subst, refl, ◌+◌, slice_set, Bool, true, false, length, Ok, arith}
use Rattle.std.proofs.lemmas.List.{length-set, take_more_set}
use Rattle.m161_cpu.specs.declared.processor.Outcome.TheVariants.{Ran}
use Rattle.m161_machine.specs.declared.event.Entry.{Entry}
use Rattle.m161_machine.specs.State.{State}
use Rattle.m161_machine.specs.Stretch.{IsPlain, planned}
use Rattle.m161_machine.specs.helpers.Stretch.{IsUnderWay}
use Rattle.m161_machine.proofs.Advancing.{step_gives}
use Rattle.m161_machine.proofs.Stretching.{next_is, other_made, planned_read, quiet_made, quiet_now, stretch_filled, stretch_made}
use Rattle.m161_machine.proofs.state.Core.make_planned.Goals as goal
use Rattle.m161_machine.proofs.state.Core.make_planned.Goals.{else-stretch-via-then-stretch+else-not-is_running, else-stretch-via-else-stretch}

no_stretch : {P : Type 0} → false ≡ true → P
no_stretch bad = absurd (let no : false ≡ true = bad in cc)

pub processor-p-requires : goal.processor-p-requires
processor-p-requires g c =
    planned_read (length c.args.self.now.state.processors) c.args.stretch c.args.kept.now c.args.self.now.state c.loop-made.made c.loop-made.kept c.loop-made.self.state
    c.index-kept-made.result c.requires.planned c.loop-made.invariant.0 c.loop-made-test.true c.law.ensures.few

pub make_step-requires-clause-processor : goal.make_step-requires-clause-processor
make_step-requires-clause-processor g c =
    let x = next_is (length c.args.self.now.state.processors) c.args.stretch c.args.kept.now c.args.self.now.state c.loop-made.made c.loop-made.kept c.loop-made.self.state
    c.processor-p.result c.index-kept-made.result c.requires.planned c.loop-made.invariant.0 c.loop-made-test.true c.processor-p.ensures in
    let below = x.0 in
    let same = c.loop-made.invariant.1.1 in
    omega (arith, below, same)

pub is_running-requires : goal.is_running-requires
is_running-requires g c =
    let x = next_is (length c.args.self.now.state.processors) c.args.stretch c.args.kept.now c.args.self.now.state c.loop-made.made c.loop-made.kept c.loop-made.self.state
    c.processor-p.result c.index-kept-made.result c.requires.planned c.loop-made.invariant.0 c.loop-made-test.true c.processor-p.ensures in
    let below = x.0 in
    let same = c.loop-made.invariant.1.1 in
    let sizes = c.make_step.ensures.sizes.1 in
    omega (arith, below, same, sizes)

pub returns-then-not-is_running-clause-leads : goal.returns-then-not-is_running-clause-leads
returns-then-not-is_running-clause-leads g c =
    let long = c.loop-made.invariant.0.length_is in
    let x = next_is (length c.args.self.now.state.processors) c.args.stretch c.args.kept.now c.args.self.now.state c.loop-made.made c.loop-made.kept c.loop-made.self.state
    c.processor-p.result c.index-kept-made.result c.requires.planned c.loop-made.invariant.0 c.loop-made-test.true c.processor-p.ensures in
    let gives = step_gives c.processor-p.result (length c.args.kept.now) c.loop-made.made c.args.self.now.state c.loop-made.self.state c.make_step.new.self.state
    Ran c.loop-made.invariant.1 x.0 c.loop-made.invariant.3 c.loop-made.invariant.2 c.requires.few (omega (arith, long, c.loop-made-test.true)) (c.in-Quiet.ensures).outcome
    c.make_step.ensures.state in
    (quiet_made c.args.stretch false c.args.kept.now c.loop-made.kept c.loop-made.made c.processor-p.result c.args.self.now.state c.loop-made.self.state
    c.make_step.new.self.state c.loop-made.invariant.0 (omega (arith, long, c.loop-made-test.true)) x.1 gives no_stretch no_stretch).leads

pub returns-then-not-is_running-clause-events : goal.returns-then-not-is_running-clause-events
returns-then-not-is_running-clause-events g c =
    let long = c.loop-made.invariant.0.length_is in
    let x = next_is (length c.args.self.now.state.processors) c.args.stretch c.args.kept.now c.args.self.now.state c.loop-made.made c.loop-made.kept c.loop-made.self.state
    c.processor-p.result c.index-kept-made.result c.requires.planned c.loop-made.invariant.0 c.loop-made-test.true c.processor-p.ensures in
    let gives = step_gives c.processor-p.result (length c.args.kept.now) c.loop-made.made c.args.self.now.state c.loop-made.self.state c.make_step.new.self.state
    Ran c.loop-made.invariant.1 x.0 c.loop-made.invariant.3 c.loop-made.invariant.2 c.requires.few (omega (arith, long, c.loop-made-test.true)) (c.in-Quiet.ensures).outcome
    c.make_step.ensures.state in
    (quiet_made c.args.stretch false c.args.kept.now c.loop-made.kept c.loop-made.made c.processor-p.result c.args.self.now.state c.loop-made.self.state
    c.make_step.new.self.state c.loop-made.invariant.0 (omega (arith, long, c.loop-made-test.true)) x.1 gives no_stretch no_stretch).events_are

pub returns-then-not-is_running-clause-stretch : goal.returns-then-not-is_running-clause-stretch
returns-then-not-is_running-clause-stretch g c =
    λ stretch some.
    let long = c.loop-made.invariant.0.length_is in
    let x = next_is (length c.args.self.now.state.processors) c.args.stretch c.args.kept.now c.args.self.now.state c.loop-made.made c.loop-made.kept c.loop-made.self.state
    c.processor-p.result c.index-kept-made.result c.requires.planned c.loop-made.invariant.0 c.loop-made-test.true c.processor-p.ensures in
    let gives = step_gives c.processor-p.result (length c.args.kept.now) c.loop-made.made c.args.self.now.state c.loop-made.self.state c.make_step.new.self.state
    Ran c.loop-made.invariant.1 x.0 c.loop-made.invariant.3 c.loop-made.invariant.2 c.requires.few (omega (arith, long, c.loop-made-test.true)) (c.in-Quiet.ensures).outcome
    c.make_step.ensures.state in
    stretch_made c.args.stretch c.args.kept.now c.loop-made.kept c.loop-made.kept c.loop-made.made c.processor-p.result (planned c.processor-p.result) c.args.self.now.state
    c.loop-made.self.state c.make_step.new.self.state c.loop-made.invariant.0 stretch refl gives (quiet_now c.loop-made.kept c.loop-made.made c.processor-p.result c.loop-made-test.true x.1)

pub loop-made-preserved-else-stretch : goal.loop-made-preserved-else-stretch
loop-made-preserved-else-stretch g c =
    let long = c.loop-made.invariant.0.length_is in
    let x = next_is (length c.args.self.now.state.processors) c.args.stretch c.args.kept.now c.args.self.now.state c.loop-made.made c.loop-made.kept c.loop-made.self.state
    c.processor-p.result c.index-kept-made.result c.requires.planned c.loop-made.invariant.0 c.loop-made-test.true c.processor-p.ensures in
    let gives = step_gives c.processor-p.result (length c.args.kept.now) c.loop-made.made c.args.self.now.state c.loop-made.self.state c.make_step.new.self.state
    Ran c.loop-made.invariant.1 x.0 c.loop-made.invariant.3 c.loop-made.invariant.2 c.requires.few (omega (arith, long, c.loop-made-test.true)) (c.in-Quiet.ensures).outcome
    c.make_step.ensures.state in
    let quiet = c.make_step.ensures.quiet c.in-Quiet.is in
    let sizes = c.make_step.ensures.sizes in
    let one = ap (λ (s : State). s.made) c.make_step.ensures.state in
    let plain : c.args.stretch ≡ true → IsPlain c.processor-p.result c.loop-made.self.state c.make_step.new.self.state = elim c.else-stretch.branch [
      | else-stretch-via-then-stretch+else-not-is_running w ↦ λ on. (quiet, w.is_running.ensures w.if-not-is_running.false)
      | else-stretch-via-else-stretch w ↦ λ on. absurd (let bad : true ≡ false = sym on ∙ w.if-stretch.false in cc)
    ] in (
      quiet_made c.args.stretch c.args.stretch c.args.kept.now c.loop-made.kept c.loop-made.made c.processor-p.result c.args.self.now.state c.loop-made.self.state
          c.make_step.new.self.state c.loop-made.invariant.0 (omega (arith, long, c.loop-made-test.true)) x.1 gives plain (λ on. on),
      (sizes.0 ∙ c.loop-made.invariant.1.0, sizes.1 ∙ c.loop-made.invariant.1.1, sizes.2 ∙ c.loop-made.invariant.1.2),
      omega (arith, one, c.loop-made.invariant.2),
      ap (λ b. b.off) quiet.board_is ∙ c.loop-made.invariant.3,
      omega (arith, c.loop-made-test.true),
      c.make_step.ensures.room ∙ c.loop-made.invariant.5,
    )

pub of_step-requires-clause-small : goal.of_step-requires-clause-small
of_step-requires-clause-small g c =
    let x = next_is (length c.args.self.now.state.processors) c.args.stretch c.args.kept.now c.args.self.now.state c.loop-made.made c.loop-made.kept c.loop-made.self.state
    c.processor-p.result c.index-kept-made.result c.requires.planned c.loop-made.invariant.0 c.loop-made-test.true c.processor-p.ensures in
    let below = x.0 in
    let few = c.law.ensures.few in
    omega (arith, below, few)

pub returns-then-stretch-2-clause-leads : goal.returns-then-stretch-2-clause-leads
returns-then-stretch-2-clause-leads g c =
    let long = c.loop-made.invariant.0.length_is in
    let x = next_is (length c.args.self.now.state.processors) c.args.stretch c.args.kept.now c.args.self.now.state c.loop-made.made c.loop-made.kept c.loop-made.self.state
    c.processor-p.result c.index-kept-made.result c.requires.planned c.loop-made.invariant.0 c.loop-made-test.true c.processor-p.ensures in
    let gives = step_gives c.processor-p.result (length c.args.kept.now) c.loop-made.made c.args.self.now.state c.loop-made.self.state c.make_step.new.self.state
    c.in-Aside.outcome c.loop-made.invariant.1 x.0 c.loop-made.invariant.3 c.loop-made.invariant.2 c.requires.few (omega (arith, long, c.loop-made-test.true)) c.in-Aside.ensures.outcome
    c.make_step.ensures.state in
    (other_made c.args.stretch c.args.kept.now c.loop-made.kept c.loop-made.made c.processor-p.result c.of_step.result c.args.self.now.state c.loop-made.self.state
    c.make_step.new.self.state c.loop-made.invariant.0 (omega (arith, long, c.loop-made-test.true)) x.1 (ap (λ (e : Entry). e.event) c.of_step.ensures)
    (gives ∙ ap (λ (e : Entry). Ok (e.outcome, c.make_step.new.self.state)) (sym c.of_step.ensures))).leads

pub returns-then-stretch-2-clause-events : goal.returns-then-stretch-2-clause-events
returns-then-stretch-2-clause-events g c =
    let long = c.loop-made.invariant.0.length_is in
    let x = next_is (length c.args.self.now.state.processors) c.args.stretch c.args.kept.now c.args.self.now.state c.loop-made.made c.loop-made.kept c.loop-made.self.state
    c.processor-p.result c.index-kept-made.result c.requires.planned c.loop-made.invariant.0 c.loop-made-test.true c.processor-p.ensures in
    let gives = step_gives c.processor-p.result (length c.args.kept.now) c.loop-made.made c.args.self.now.state c.loop-made.self.state c.make_step.new.self.state
    c.in-Aside.outcome c.loop-made.invariant.1 x.0 c.loop-made.invariant.3 c.loop-made.invariant.2 c.requires.few (omega (arith, long, c.loop-made-test.true)) c.in-Aside.ensures.outcome
    c.make_step.ensures.state in
    (other_made c.args.stretch c.args.kept.now c.loop-made.kept c.loop-made.made c.processor-p.result c.of_step.result c.args.self.now.state c.loop-made.self.state
    c.make_step.new.self.state c.loop-made.invariant.0 (omega (arith, long, c.loop-made-test.true)) x.1 (ap (λ (e : Entry). e.event) c.of_step.ensures)
    (gives ∙ ap (λ (e : Entry). Ok (e.outcome, c.make_step.new.self.state)) (sym c.of_step.ensures))).events_are

pub returns-then-stretch-2-clause-stretch : goal.returns-then-stretch-2-clause-stretch
returns-then-stretch-2-clause-stretch g c =
    λ stretch some.
    let long = c.loop-made.invariant.0.length_is in
    let x = next_is (length c.args.self.now.state.processors) c.args.stretch c.args.kept.now c.args.self.now.state c.loop-made.made c.loop-made.kept c.loop-made.self.state
    c.processor-p.result c.index-kept-made.result c.requires.planned c.loop-made.invariant.0 c.loop-made-test.true c.processor-p.ensures in
    let gives = step_gives c.processor-p.result (length c.args.kept.now) c.loop-made.made c.args.self.now.state c.loop-made.self.state c.make_step.new.self.state
    c.in-Aside.outcome c.loop-made.invariant.1 x.0 c.loop-made.invariant.3 c.loop-made.invariant.2 c.requires.few (omega (arith, long, c.loop-made-test.true)) c.in-Aside.ensures.outcome
    c.make_step.ensures.state in
    stretch_made c.args.stretch c.args.kept.now c.loop-made.kept (slice_set c.loop-made.kept c.loop-made.made c.of_step.result) c.loop-made.made c.processor-p.result c.of_step.result
    c.args.self.now.state c.loop-made.self.state c.make_step.new.self.state c.loop-made.invariant.0 stretch (ap (λ (e : Entry). e.event) c.of_step.ensures)
    (gives ∙ ap (λ (e : Entry). Ok (e.outcome, c.make_step.new.self.state)) (sym c.of_step.ensures))
    (take_more_set c.loop-made.kept c.loop-made.made c.of_step.result c.loop-made-test.true)

pub loop-made-preserved : goal.loop-made-preserved
loop-made-preserved g c =
    let long = c.loop-made.invariant.0.length_is in
    let x = next_is (length c.args.self.now.state.processors) c.args.stretch c.args.kept.now c.args.self.now.state c.loop-made.made c.loop-made.kept c.loop-made.self.state
    c.processor-p.result c.index-kept-made.result c.requires.planned c.loop-made.invariant.0 c.loop-made-test.true c.processor-p.ensures in
    let gives = step_gives c.processor-p.result (length c.args.kept.now) c.loop-made.made c.args.self.now.state c.loop-made.self.state c.make_step.new.self.state
    c.in-Aside.outcome c.loop-made.invariant.1 x.0 c.loop-made.invariant.3 c.loop-made.invariant.2 c.requires.few (omega (arith, long, c.loop-made-test.true)) c.in-Aside.ensures.outcome
    c.make_step.ensures.state in
    let sizes = c.make_step.ensures.sizes in
    let one = ap (λ (s : State). s.made) c.make_step.ensures.state in
    let set_long = length-set c.loop-made.kept c.loop-made.made c.of_step.result in (
      subst (λ (b : Bool). IsUnderWay b c.args.kept.now c.args.self.now.state (c.loop-made.made + 1) (slice_set c.loop-made.kept c.loop-made.made c.of_step.result)
          c.make_step.new.self.state) (sym c.if-stretch-2.false) (other_made c.args.stretch c.args.kept.now c.loop-made.kept c.loop-made.made c.processor-p.result c.of_step.result c.args.self.now.state c.loop-made.self.state
          c.make_step.new.self.state c.loop-made.invariant.0 (omega (arith, long, c.loop-made-test.true)) x.1 (ap (λ (e : Entry). e.event) c.of_step.ensures)
          (gives ∙ ap (λ (e : Entry). Ok (e.outcome, c.make_step.new.self.state)) (sym c.of_step.ensures))),
      (sizes.0 ∙ c.loop-made.invariant.1.0, sizes.1 ∙ c.loop-made.invariant.1.1, sizes.2 ∙ c.loop-made.invariant.1.2),
      omega (arith, one, c.loop-made.invariant.2),
      sym c.is_off.ensures ∙ c.if-is_off.false,
      omega (arith, set_long, c.loop-made-test.true),
      c.make_step.ensures.room ∙ c.loop-made.invariant.5,
    )

pub returns-clause-stretch : goal.returns-clause-stretch
returns-clause-stretch g c =
    λ stretch some.
    let long = c.loop-made.invariant.0.length_is in
    stretch_filled c.args.stretch c.args.kept.now c.loop-made.kept c.loop-made.made c.args.self.now.state c.loop-made.self.state c.loop-made.invariant.0 stretch
    (omega (arith, long, some, c.loop-made-test.false)) c.loop-made.invariant.4
