use Rattle.std.proofs.Common.{◌≡◌, ◌∙◌, ◌≤◌, ap, arith, length, subst}
use Rattle.m161_states.specs.Question.{Question, processors_of}
use Rattle.m161_reach.proofs.Asked.{processors_are}
use Rattle.m161_reach.proofs.Refusing.{refuses_done, refuses_key}
use Rattle.m161_reach.proofs.machines.Machines.refuses.Goals as goal

pub returns-then-event-processors-2 : goal.returns-then-event-processors-2
returns-then-event-processors-2 g c =
    let q = c.args.self.now in
    let size : c.processors-processors.result ≡ processors_of q =
    c.processors-processors.ensures ∙ c.law.ensures.number
    ∙ processors_are c.self.inside.boot.now.state c.self.inside.goal.now c.self.inside.known c.self.invariant
    ∙ ap processors_of c.self.view_is in
    let second = c.if-event-processors-2.true in
    λ yes.
    let h = c.refuses_done.ensures yes in refuses_done q c.args.place.now c.args.event h.0 (omega (arith, size, second)) h.1

pub returns-else-event-processors-2 : goal.returns-else-event-processors-2
returns-else-event-processors-2 g c =
    let q = c.args.self.now in
    let x = c.args.place.now in
    let size : c.processors-processors.result ≡ processors_of q =
    c.processors-processors.ensures ∙ c.law.ensures.number
    ∙ processors_are c.self.inside.boot.now.state c.self.inside.goal.now c.self.inside.known c.self.invariant
    ∙ ap processors_of c.self.view_is in
    let first = c.if-event-processors.false in
    let second = c.if-event-processors-2.false in
    λ yes. refuses_key q x c.args.event (omega (arith, size, first, second))
    (subst (λ (r : Question). length r.goal.keys ≤ x.typed) c.self.view_is (c.has_no_key.ensures yes))
