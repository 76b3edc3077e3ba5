use Rattle.std.proofs.Common.{◌≡◌, ◌∙◌, ap, inl, inr, None, Some, subst, sym, Bool}
use Rattle.std.specs.Prelude.{if◌then◌else◌}
use Rattle.m161_states.specs.System.{event_of}
use Rattle.m161_states.specs.Verdicts.{is_end}
use Rattle.m161_states.specs.Views.{view}
use Rattle.m161_reach.specs.From.{at_end, rules_from}
use Rattle.m161_reach.specs.helpers.MetFrom.{next_met, unmade_met}
use Rattle.m161_reach.specs.Reach.{IsMet}
use Rattle.m161_reach.specs.helpers.Advance.{TakesNext}
use Rattle.m161_reach.proofs.Behind.{end_same}
use Rattle.m161_reach.proofs.Walking.{refused, stays, took}
use Rattle.m161_explore.specs.declared.system.Advanced.{Advanced}
use Rattle.m161_explore.specs.declared.system.Advanced.TheVariants.{Judged, Passed, Refused}
use Rattle.m161_states.specs.declared.verdict.Unknown.{Unknown}
use Rattle.m161_reach.proofs.onward.advance_known.Goals as goal

pub returns-then-ends_at-clause-advances : goal.returns-then-ends_at-clause-advances
unfolding rules_from
returns-then-ends_at-clause-advances g c = λ x.
    let q = c.args.machines.now in
    let t = c.take_event.new.place in
    let to = took q c.args.place.now c.args.event t c.in-Some._outcome
    (subst (TakesNext q.goal c.args.place.now (event_of q c.args.place.now c.args.event) t) c.in-Some.is c.in_ok-_outcome.ensures) in
    let end = sym (end_same q to.0) ∙ ap (is_end q) (sym to.2) ∙ sym c.ends_at.ensures ∙ c.if-ends_at.true in
    (to.0, c.requires.known, to.1, ap (at_end q) to.1 ∙ ap (λ (b : Bool). if b then Some tt else None) end)

pub returns-else-ends_at-clause-advances : goal.returns-else-ends_at-clause-advances
unfolding rules_from
returns-else-ends_at-clause-advances g c = λ x.
    let q = c.args.machines.now in
    let t = c.take_event.new.place in
    let to = took q c.args.place.now c.args.event t c.in-Some._outcome
    (subst (TakesNext q.goal c.args.place.now (event_of q c.args.place.now c.args.event) t) c.in-Some.is c.in_ok-_outcome.ensures) in
    let end = sym (end_same q to.0) ∙ ap (is_end q) (sym to.2) ∙ sym c.ends_at.ensures ∙ c.if-ends_at.false in (
      to.0,
      c.requires.known,
      to.1,
      ap (at_end q) to.1 ∙ ap (λ (b : Bool). if b then Some tt else None) end,
      subst (IsMet q) (sym to.2) (unmade_met q to.0 (next_met q c.args.place.now to.0 c.args.event c.requires.met to.1)),
      ap (view q) to.2,
    )

pub returns-in-None-clause-advances : goal.returns-in-None-clause-advances
unfolding rules_from
returns-in-None-clause-advances g c = λ x.
    let q = c.args.machines.now in
    let t = c.take_event.new.place in (
      c.requires.known,
      refused q c.args.place.now c.args.event t
          (subst (TakesNext q.goal c.args.place.now (event_of q c.args.place.now c.args.event) t) c.in-None.is c.in_ok-_outcome.ensures),
    )

pub returns-then-ends_at-clause-handled : goal.returns-then-ends_at-clause-handled
returns-then-ends_at-clause-handled g c =
    let q = c.args.machines.now in
    let t = c.take_event.new.place in
    let to = took q c.args.place.now c.args.event t c.in-Some._outcome
    (subst (TakesNext q.goal c.args.place.now (event_of q c.args.place.now c.args.event) t) c.in-Some.is c.in_ok-_outcome.ensures) in
    (inr to, λ no. absurd (let bad : ◌≡◌ {A = Advanced (Unit {0}) Unknown} (Judged tt) Refused = no in cc))

pub returns-else-ends_at-clause-handled : goal.returns-else-ends_at-clause-handled
returns-else-ends_at-clause-handled g c =
    let q = c.args.machines.now in
    let t = c.take_event.new.place in
    let to = took q c.args.place.now c.args.event t c.in-Some._outcome
    (subst (TakesNext q.goal c.args.place.now (event_of q c.args.place.now c.args.event) t) c.in-Some.is c.in_ok-_outcome.ensures) in
    (inr to, λ no. absurd (let bad : ◌≡◌ {A = Advanced (Unit {0}) Unknown} Passed Refused = no in cc))

pub returns-in-None-clause-handled : goal.returns-in-None-clause-handled
returns-in-None-clause-handled g c =
    let q = c.args.machines.now in
    let t = c.take_event.new.place in
    let same = stays q c.args.place.now c.args.event t
    (subst (TakesNext q.goal c.args.place.now (event_of q c.args.place.now c.args.event) t) c.in-None.is c.in_ok-_outcome.ensures) in
    (inl same, λ none. same)
