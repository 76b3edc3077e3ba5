use Rattle.std.proofs.Common.{◌≡◌, ◌∙◌, ◌<◌, ap, min, sym, subst, slice_index_or, List}
use Rattle.m161_machine.specs.declared.event.Event.{Event}
use Rattle.m161_machine.specs.declared.event.Event.TheVariants.{Step}
use Rattle.m161_machine.specs.State.{CoreValue, State, next}
use Rattle.m161_replay.specs.Replays.{Replay, number_made, place_of}
use Rattle.m161_replay.proofs.Places.{comes, indexed, one_further}
use Rattle.m161_replay.proofs.replay.ReplayRun.advance.Goals as goal

pub make-requires : goal.make-requires
make-requires g c =
    let x = c.self.inside in
    let i = c.self.invariant in
    let lt : min x.place (number_made x.start.value.state x.list.items) < number_made x.start.value.state x.list.items =
    subst (λ (r : Replay). place_of r < number_made r.start r.events) (sym c.self.view_is) c.requires in
    let k = comes x.start.value.state x.list.items x.place x.last x.here.value.state i.2 lt in
    let event = ap (λ (l : List Event). slice_index_or l x.place (Step 0)) c.as_slice-list.ensures.value ∙ indexed x.here.value.state x.list.items x.place (Step 0) k in
    let here : c.deref_mut.result.now.state ≡ x.here.value.state = ap (λ (b : CoreValue). b.state) c.deref_mut.ensures.value in
    let first = slice_index_or c.as_slice-list.result.now x.place (Step 0) in
    (k.outcome, k.state, ap (λ (s : State). next s first) here ∙ ap (next x.here.value.state) event ∙ k.made)

pub invariant_of-self-2 : goal.invariant_of-self-2
invariant_of-self-2 g c =
    let x = c.self.inside in
    let i = c.self.invariant in
    let lt : min x.place (number_made x.start.value.state x.list.items) < number_made x.start.value.state x.list.items =
    subst (λ (r : Replay). place_of r < number_made r.start r.events) (sym c.self.view_is) c.requires in
    let k = comes x.start.value.state x.list.items x.place x.last x.here.value.state i.2 lt in
    let event = ap (λ (l : List Event). slice_index_or l x.place (Step 0)) c.as_slice-list.ensures.value ∙ indexed x.here.value.state x.list.items x.place (Step 0) k in
    let here : c.deref_mut.result.now.state ≡ x.here.value.state = ap (λ (b : CoreValue). b.state) c.deref_mut.ensures.value in
    let first = slice_index_or c.as_slice-list.result.now x.place (Step 0) in
    let made = c.in_ok-make.ensures.made in (
      i.0,
      i.1,
      one_further x.start.value.state x.list.items x.place x.last x.here.value.state i.2 k
          first event made.0 c.make.new.core.state (ap (λ (s : State). next s first) (sym here) ∙ made.1) c.last_after-self-inside.result c.last_after-self-inside.ensures,
    )
