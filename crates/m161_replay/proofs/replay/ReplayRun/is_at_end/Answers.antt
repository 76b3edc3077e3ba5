use Rattle.std.proofs.Common.{◌≡◌, ◌∙◌, ap, slice_get, List}
use Rattle.m161_machine.specs.declared.event.Event.{Event}
use Rattle.m161_machine.specs.State.{CoreValue, State}
use Rattle.m161_replay.specs.helpers.Over.{is_over}
use Rattle.m161_replay.proofs.Places.{is_end}
use Rattle.m161_replay.proofs.replay.ReplayRun.is_at_end.Goals as goal

pub returns : goal.returns
returns g c =
    let x = c.self.inside in
    let i = c.self.invariant in
    let here : c.deref.result.now.state ≡ x.here.value.state = ap (λ (k : CoreValue). k.state) c.deref.ensures in
    c.is_over.ensures ∙ ap (λ (s : State). is_over s c.event_at-event.result) here
    ∙ ap (is_over x.here.value.state) (c.event_at-event.ensures ∙ ap (λ (l : List Event). slice_get l x.place) c.as_slice.ensures.value)
    ∙ rw (← c.self.view_is) (is_end x.start.value.state x.list.items x.place x.last x.here.value.state i.2)
