use Rattle.std.proofs.Common.{◌≡◌, ◌∙◌, ap, sym, subst, Ok}
use Rattle.m161_cpu.specs.declared.processor.Outcome.{Outcome}
use Rattle.m161_cpu.specs.declared.processor.Outcome.TheVariants.{Taken}
use Rattle.m161_machine.specs.declared.event.Entry.{Entry}
use Rattle.m161_machine.specs.declared.event.Event.{Event}
use Rattle.m161_machine.specs.declared.event.Event.TheVariants.{Done, Key}
use Rattle.m161_machine.specs.State.{State, next}
use Rattle.m161_machine.specs.History.{MakesEntry, entry}
use Rattle.m161_machine.proofs.Given.{gives}
use Rattle.m161_machine.proofs.state.Core.packed_event.Goals as goal

-- an input's entry has the one outcome that an input can have
of_input : (s t : State) (e : Event) (o : Outcome) (made : Entry) → o ≡ Taken → made ≡ entry e Taken →
    next s e ≡ Ok (o, t) → MakesEntry s e (Ok made) t
of_input s t e o made same is h =
    (ap (λ (x : Entry). x.event) is, h ∙ (λ i. Ok ((same ∙ sym (ap (λ (x : Entry). x.outcome) is)) i, t)))

pub returns-in-Ok-clause-makes : goal.returns-in-Ok-clause-makes
returns-in-Ok-clause-makes g c =
    let s = c.args.self.now.state in
    let t = c.key.new.self.state in
    let h : next s (Key c.in-Key.byte) ≡ Ok (c.in-Ok._outcome, t) = c.in-Ok.ensures.makes in
    subst (λ e. MakesEntry s e (Ok c.of_key.result) t) (sym c.in-Key.is)
    (of_input s t (Key c.in-Key.byte) c.in-Ok._outcome c.of_key.result (gives (Key c.in-Key.byte) s t c.in-Ok._outcome h) c.of_key.ensures h)

pub returns-in-Ok-done-clause-makes : goal.returns-in-Ok-done-clause-makes
returns-in-Ok-done-clause-makes g c =
    let s = c.args.self.now.state in
    let t = c.done.new.self.state in
    let h : next s Done ≡ Ok (c.in-Ok-done._outcome, t) = c.in-Ok-done.ensures.makes in
    subst (λ e. MakesEntry s e (Ok c.of_done.result) t) (sym c.in-Done.is)
    (of_input s t Done c.in-Ok-done._outcome c.of_done.result (gives Done s t c.in-Ok-done._outcome h) c.of_done.ensures h)
