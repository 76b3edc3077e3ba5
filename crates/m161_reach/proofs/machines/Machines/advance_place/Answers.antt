use Rattle.std.proofs.Common.{◌≡◌, ◌∙◌, ap, subst, arith, Some}
use Rattle.std.specs.Prelude.{option_map, slice_get}
use Rattle.m161_machine.specs.declared.event.Event.TheVariants.{Done, Key, Step}
use Rattle.m161_states.specs.Question.{Question, processors_of}
use Rattle.m161_reach.specs.helpers.Advance.{AdvancesBy, asked}
use Rattle.m161_reach.proofs.Asked.{processors_are}
use Rattle.m161_reach.proofs.Encoding.{if_ok}
use Rattle.m161_reach.proofs.Handled.{handled}
use Rattle.m161_reach.proofs.Meeting.{came, done_event, key_event, step_event}
use Rattle.m161_reach.proofs.machines.Machines.advance_place.Goals as goal

pub returns-then-event-processors-clause-advances : goal.returns-then-event-processors-clause-advances
returns-then-event-processors-clause-advances g c =
    let q = c.args.self.now in
    let x = c.args.place.now in
    let n = c.args.event in
    let t = c.advance_step.new.place in
    let size : c.processors-processors.result ≡ processors_of q =
    c.processors-processors.ensures ∙ c.law.ensures.number
    ∙ processors_are c.self.inside.boot.now.state c.self.inside.goal.now c.self.inside.known c.self.invariant
    ∙ ap processors_of c.self.view_is in
    if_ok c.advance_step.result (λ come h. came q x t n (Some (Step n)) come c.requires.met (step_event q x n (omega (arith, size)))
    (subst (λ (r : Question). AdvancesBy (asked r.goal r.known) x (Some (Step n)) t come) c.self.view_is h)) c.advance_step.ensures

pub returns-then-event-processors-clause-handled : goal.returns-then-event-processors-clause-handled
returns-then-event-processors-clause-handled g c =
    let q = c.args.self.now in
    let x = c.args.place.now in
    let n = c.args.event in
    let t = c.advance_step.new.place in
    let size : c.processors-processors.result ≡ processors_of q =
    c.processors-processors.ensures ∙ c.law.ensures.number
    ∙ processors_are c.self.inside.boot.now.state c.self.inside.goal.now c.self.inside.known c.self.invariant
    ∙ ap processors_of c.self.view_is in
    if_ok c.advance_step.result (λ come h. handled q x t n (Some (Step n)) come (step_event q x n (omega (arith, size)))
    (subst (λ (r : Question). AdvancesBy (asked r.goal r.known) x (Some (Step n)) t come) c.self.view_is h)) c.advance_step.ensures

pub returns-then-event-processors-2-clause-advances : goal.returns-then-event-processors-2-clause-advances
returns-then-event-processors-2-clause-advances g c =
    let q = c.args.self.now in
    let x = c.args.place.now in
    let n = c.args.event in
    let t = c.advance_done.new.place in
    let size : c.processors-processors.result ≡ processors_of q =
    c.processors-processors.ensures ∙ c.law.ensures.number
    ∙ processors_are c.self.inside.boot.now.state c.self.inside.goal.now c.self.inside.known c.self.invariant
    ∙ ap processors_of c.self.view_is in
    if_ok c.advance_done.result (λ come h. came q x t n (Some Done) come c.requires.met (done_event q x n (omega (arith, size)))
    (subst (λ (r : Question). AdvancesBy (asked r.goal r.known) x (Some Done) t come) c.self.view_is (h c.self.inside.known))) c.advance_done.ensures

pub returns-then-event-processors-2-clause-handled : goal.returns-then-event-processors-2-clause-handled
returns-then-event-processors-2-clause-handled g c =
    let q = c.args.self.now in
    let x = c.args.place.now in
    let n = c.args.event in
    let t = c.advance_done.new.place in
    let size : c.processors-processors.result ≡ processors_of q =
    c.processors-processors.ensures ∙ c.law.ensures.number
    ∙ processors_are c.self.inside.boot.now.state c.self.inside.goal.now c.self.inside.known c.self.invariant
    ∙ ap processors_of c.self.view_is in
    if_ok c.advance_done.result (λ come h. handled q x t n (Some Done) come (done_event q x n (omega (arith, size)))
    (subst (λ (r : Question). AdvancesBy (asked r.goal r.known) x (Some Done) t come) c.self.view_is (h c.self.inside.known))) c.advance_done.ensures

pub returns-else-event-processors-2-clause-advances : goal.returns-else-event-processors-2-clause-advances
returns-else-event-processors-2-clause-advances g c =
    let q = c.args.self.now in
    let x = c.args.place.now in
    let n = c.args.event in
    let t = c.advance_key.new.place in
    let size : c.processors-processors.result ≡ processors_of q =
    c.processors-processors.ensures ∙ c.law.ensures.number
    ∙ processors_are c.self.inside.boot.now.state c.self.inside.goal.now c.self.inside.known c.self.invariant
    ∙ ap processors_of c.self.view_is in
    let first = c.if-event-processors.false in
    let second = c.if-event-processors-2.false in
    if_ok c.advance_key.result (λ come h. came q x t n (option_map (λ byte. Key byte) (slice_get q.goal.keys x.typed)) come c.requires.met
    (key_event q x n (omega (arith, size, first, second)))
    (subst (λ (r : Question). AdvancesBy (asked r.goal r.known) x (option_map (λ byte. Key byte) (slice_get r.goal.keys x.typed)) t come) c.self.view_is
    (h c.self.inside.known))) c.advance_key.ensures

pub returns-else-event-processors-2-clause-handled : goal.returns-else-event-processors-2-clause-handled
returns-else-event-processors-2-clause-handled g c =
    let q = c.args.self.now in
    let x = c.args.place.now in
    let n = c.args.event in
    let t = c.advance_key.new.place in
    let size : c.processors-processors.result ≡ processors_of q =
    c.processors-processors.ensures ∙ c.law.ensures.number
    ∙ processors_are c.self.inside.boot.now.state c.self.inside.goal.now c.self.inside.known c.self.invariant
    ∙ ap processors_of c.self.view_is in
    let first = c.if-event-processors.false in
    let second = c.if-event-processors-2.false in
    if_ok c.advance_key.result (λ come h. handled q x t n (option_map (λ byte. Key byte) (slice_get q.goal.keys x.typed)) come
    (key_event q x n (omega (arith, size, first, second)))
    (subst (λ (r : Question). AdvancesBy (asked r.goal r.known) x (option_map (λ byte. Key byte) (slice_get r.goal.keys x.typed)) t come) c.self.view_is
    (h c.self.inside.known))) c.advance_key.ensures
