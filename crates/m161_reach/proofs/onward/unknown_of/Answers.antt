use Rattle.std.proofs.Common.{◌≡◌, ◌∙◌, ap, arith, sym}
use Rattle.m161_alike.specs.View.{known_of}
use Rattle.m161_states.specs.Question.{Question, processors_of}
use Rattle.m161_states.specs.System.{Explored}
use Rattle.m161_states.specs.Verdicts.{reads_next, stop_by, unknown_by}
use Rattle.m161_reach.proofs.Asked.{processors_are}
use Rattle.m161_reach.proofs.Fresh.{fresh_next}
use Rattle.m161_reach.proofs.Meeting.{step_event}
use Rattle.m161_reach.proofs.onward.unknown_of.Goals as goal

pub returns-then-event-processors : goal.returns-then-event-processors
returns-then-event-processors g c =
    let q = c.args.machines.now in
    let x = c.args.place.now in
    let n = c.args.event in
    let old = c.machines.inside in
    let size : c.processors.result ≡ processors_of q =
    c.processors.ensures ∙ c.law.ensures.number ∙ processors_are old.boot.now.state old.goal.now old.known c.machines.invariant ∙ ap processors_of c.machines.view_is in
    let read : reads_next n c.place.inside.core.state ≡ reads_next n x.state =
    sym (fresh_next n c.place.inside.core.state) ∙ ap (λ (y : Explored). reads_next n y.state) c.place.view_is in
    c.unknown.ensures ∙ ap (unknown_by (known_of old.known n) n) read
    ∙ ap (λ (r : Question). unknown_by (known_of r.known n) n (reads_next n x.state)) c.machines.view_is
    ∙ ap (stop_by q x) (sym (step_event q x n (omega (arith, size))))
