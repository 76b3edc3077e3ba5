use Rattle.std.specs.Prelude.{Some}
use Rattle.std.proofs.Common.{◌≡◌, refl, ◌++◌, ◌∙◌, sym, ap, subst, ◌-◌, length, take, arith}
use Rattle.std.proofs.lemmas.List.{length-append}
use Rattle.m161_machine.specs.declared.event.Entry.{Entry}
use Rattle.m161_machine.specs.declared.event.Event.TheVariants.{Step}
use Rattle.m161_machine.specs.History.{events_of}
use Rattle.m161_machine.specs.Stretch.{ArePlanned, IsStretch}
use Rattle.m161_drive.specs.Choice.{chosen_with}
use Rattle.m161_drive.specs.helpers.Drive.{with_more_steps}
use Rattle.m161_drive.proofs.Driving.{last_of, plan_there, refused_by, stretch_turn, take_front}
use Rattle.m161_drive.proofs.run.turn.Goals as goal

pub returns-in-Some-refusal-clause-turn : goal.returns-in-Some-refusal-clause-turn
returns-in-Some-refusal-clause-turn g c =
    let s = c.args.core.now.state in
    let choice : (chosen_with c.args.policy.now c.args.key c.args.cursor.now s).0 ≡ Some (Step c.in-Step.p) =
    sym c.in-Some.ensures.event ∙ ap (λ e. Some e) c.in-Step.is in (
      (sym c.is_off.ensures ∙ c.if-is_off.false, (Step c.in-Step.p, choice, refused_by s (Step c.in-Step.p) c.in-Some-refusal.refusal (sym c.in-Some-refusal.ensures.value))),
      refl,
    )

pub stretch-made-requires-clause-planned : goal.stretch-made-requires-clause-planned
stretch-made-requires-clause-planned g c =
    subst (ArePlanned (length c.args.core.now.state.processors)) (sym c.split_at_mut-places.ensures.front)
    (plan_there c.choose_with.new.self.order c.in-Step.p c.plan-planned.result c.args.core.now.state c.plan-planned.new.places c.in_default-refusal.ensures.within.0
    c.plan-planned.ensures.plan)

pub returns-clause-turn : goal.returns-clause-turn
returns-clause-turn g c =
    let s = c.args.core.now.state in
    let t = c.stretch-made.new.self.state in
    let made = c.stretch-made.result in
    let front = c.stretch-made.new.places in
    let back = c.split_at_mut-places.result.1.now in
    let most = c.plan-planned.result in
    let some = c.stretch-made.ensures.some in
    let size = c.split_at_mut-places.ensures.front_len in
    let long = c.stretch-made.ensures.length in
    let within = c.plan-planned.ensures.some.1 in
    let kept = c.plan-planned.ensures.length in
    let choice : (chosen_with c.args.policy.now c.args.key c.args.cursor.now s).0 ≡ Some (Step c.in-Step.p) =
    sym c.in-Some.ensures.event ∙ ap (λ e. Some e) c.in-Step.is in
    let first : take made (front ++ back) ≡ take made front = take_front made front back (omega (arith, some.1, long)) in
    let stretch : IsStretch s (take made (front ++ back)) t = subst (λ es. IsStretch s es t) (sym first) c.stretch-made.ensures.stretch in
    let last = last_of s t front made c.index-places-made.result some.0 (omega (arith, some.1, long)) c.stretch-made.ensures.stretch
    c.processor_of-last.result (ap (λ (e : Entry). e.event) (sym c.index-places-made.is) ∙ c.processor_of-last.ensures) in
    stretch_turn c.args.policy.now c.args.key c.in-Step.p made most c.args.cursor.now c.choose_with.new.self c.took_steps.new.self s t
    c.plan-planned.new.places (front ++ back)
    (sym c.is_off.ensures ∙ c.if-is_off.false) choice c.in-Some.ensures.after c.plan-planned.ensures.plan c.plan-planned.ensures.room some.0
    (omega (arith, some.1, size))
    (let whole = length-append front back in omega (arith, whole, long, size))
    (omega (arith, within, kept))
    (ap events_of first ∙ c.stretch-made.ensures.steps ∙ ap (λ es. events_of (take made es)) c.split_at_mut-places.ensures.front)
    stretch
    (c.took_steps.ensures ∙ ap (λ q. with_more_steps (made - 1) q t c.choose_with.new.self) last)
