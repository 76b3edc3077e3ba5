use Rattle.std.proofs.Common.{◌∙◌, ap, refl, sym, arith}
use Rattle.std.specs.Prelude.{slice_set}
use Rattle.m161_machine.specs.State.{CoreValue, step_on, with_step}
use Rattle.m161_machine.proofs.Stepping.{step_is}
use Rattle.m161_machine.proofs.Stretching.{quiet_by}
use Rattle.m161_machine.proofs.state.Core.make_step.Goals as goal

pub step_parts-pace-requires-clause-room : goal.step_parts-pace-requires-clause-room
step_parts-pace-requires-clause-room g c =
    let made_is = ap (λ (v : CoreValue). v.state.made) c.self.view_is in
    (c.self.inside.made, omega (arith, c.requires.few_made, made_is, c.self.ranges), c.self.invariant.0.counts)

pub invariant_of-self : goal.invariant_of-self
invariant_of-self g c = (
  record {
    size_is = c.step_parts-pace.ensures.number ∙ c.self.invariant.0.size_is ∙ sym c.step_parts-pace.ensures.board.0.1;
    few = omega (arith, c.self.invariant.0.few, c.step_parts-pace.ensures.board.0.1);
    small = omega (arith, c.self.invariant.0.small, c.step_parts-pace.ensures.size);
    limits_hold = c.self.invariant.0.limits_hold;
    counts = c.step_parts-pace.ensures.counts c.self.inside.made c.self.invariant.0.counts;
    apart = λ strict. c.step_parts-pace.ensures.apart strict (c.self.invariant.0.apart strict);
    unit_is = c.step_parts-pace.ensures.unit ∙ c.self.invariant.0.unit_is;
  },
  c.step_parts-pace.ensures.started,
  c.step_parts-pace.ensures.noted,
)

pub returns-clause-outcome : goal.returns-clause-outcome
returns-clause-outcome g c =
    c.step_parts-pace.ensures.outcome c.self.inside.conf c.self.inside.made refl
    ∙ ap (λ (v : CoreValue). (step_on c.args.p v.state).outcome) c.self.view_is
    ∙ ap (λ x. x.outcome) (sym (step_is c.args.p c.args.self.now.state))

pub returns-clause-state : goal.returns-clause-state
returns-clause-state g c =
    c.step_parts-pace.ensures.state c.self.inside.conf c.self.inside.made refl
    ∙ ap (λ (v : CoreValue). with_step c.args.p (step_on c.args.p v.state) v.state) c.self.view_is
    ∙ ap (λ x. with_step c.args.p x c.args.self.now.state) (sym (step_is c.args.p c.args.self.now.state))

pub returns-clause-quiet : goal.returns-clause-quiet
returns-clause-quiet g c = λ quiet.
    let same = c.step_parts-pace.ensures.quiet quiet in
    let was = c.self.view_is in
    quiet_by c.args.p c.args.self.now.state _ same.1.0
    (same.0 ∙ ap (λ (v : CoreValue). v.state.board) was)
    (same.1.1 ∙ ap (λ (v : CoreValue). slice_set v.state.processors c.args.p same.1.0) was)
