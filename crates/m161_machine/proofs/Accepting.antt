use Rattle.std.proofs.Common.{◌≡◌, ◌∙◌, refl, sym, ℕ, ◌<◌, ◌≤◌, length, Bool, true, false, [], ◌∷◌, Option, None, Some, Result, Ok, Err, arith}
use Rattle.std.specs.Prelude.{nat_le}
use Rattle.std.proofs.lemmas.Bool.Decides.{nat_tests}
use Rattle.m161_isa.specs.Choice.{first_answer}
use Rattle.m161_bus.specs.Board.{with_console}
use Rattle.m161_bus.specs.Console.{done_from}
use Rattle.m161_cpu.specs.declared.processor.Outcome.{Outcome}
use Rattle.m161_machine.specs.declared.event.Event.{Event}
use Rattle.m161_machine.specs.declared.event.Event.TheVariants.{Step, Done}
use Rattle.m161_machine.specs.declared.event.Refusal.{Refusal}
use Rattle.m161_machine.specs.declared.event.Refusal.TheVariants.{BadProcessor, Off, Worn}
use Rattle.m161_machine.specs.State.{State, answer, answered_done, next, processor_at, refusal, step_result, unless, with_step}
use Rattle.m161_cpu.specs.declared.processor.Outcome.TheVariants.{Ran}
use Rattle.m161_cpu.specs.Scene.{around, scene}
use Rattle.m161_cpu.proofs.Laws.{ran_on}
use Rattle.m161_machine.specs.History.{Refuses}

-- When an event is accepted, and when it is refused.

-- none of the tests holds
pub passed : (a b c : Bool) (x : Result (Outcome × State) Refusal) (r : Outcome × State) →
    unless (first_answer ((a, BadProcessor) ∷ (b, Off) ∷ (c, Worn) ∷ [])) x ≡ Ok r → (a ≡ false) × (b ≡ false) × (c ≡ false) × (x ≡ Ok r)
passed true b c x r h = absurd (let bad : ◌≡◌ {A = Result (Outcome × State) Refusal} (Err BadProcessor) (Ok r) = h in cc)
passed false true c x r h = absurd (let bad : ◌≡◌ {A = Result (Outcome × State) Refusal} (Err Off) (Ok r) = h in cc)
passed false false true x r h = absurd (let bad : ◌≡◌ {A = Result (Outcome × State) Refusal} (Err Worn) (Ok r) = h in cc)
passed false false false x r h = (refl, refl, refl, h)

-- a Step that no test refuses
by_tests : (s : State) (p : ℕ) → nat_le (length s.processors) p ≡ false → s.board.off ≡ false → nat_le 9223372036854775807 s.made ≡ false →
    refusal s (Step p) ≡ None
by_tests s p place on fresh = rw (place, on, fresh) refl

pub allowed : (s : State) (e : Event) → refusal s e ≡ None → next s e ≡ answer s e
unfolding next
allowed s e h = rw h refl

pub refused : (s : State) (e : Event) (r : Refusal) → refusal s e ≡ Some r → Refuses (next s e) e r
unfolding next
refused s e r h = rw h refl

pub step_made : (s : State) (p : ℕ) (o : Outcome) (t : State) → p < length s.processors → s.board.off ≡ false → s.made < 9223372036854775807 →
    o ≡ (step_result p s).outcome → t ≡ with_step p (step_result p s) s → next s (Step p) ≡ Ok (o, t)
step_made s p o t place on few o_is t_is =
    let there : nat_le (length s.processors) p ≡ false = grind (arith, nat_tests, place) in
    let new : nat_le 9223372036854775807 s.made ≡ false = grind (arith, nat_tests, few) in
    allowed s (Step p) (by_tests s p there on new) ∙ (λ i. Ok (sym o_is i, sym t_is i))

-- a Step whose outcome is Ran leaves a machine on that was on
pub stays_on : (p : ℕ) (s : State) → s.board.off ≡ false → (step_result p s).outcome ≡ Ran → (step_result p s).after.around.board.off ≡ false
unfolding step_result
stays_on p s on ran = ran_on (scene (processor_at p s.processors) (around p s.memory s.board s.links s.conf.strict)) on ran

pub refused_by : (s : State) (e : Event) (r : Refusal) → refusal s e ≡ Some r → next s e ≡ Err r
unfolding next
refused_by s e r h = rw h refl

pub refused_off : (s : State) (p : ℕ) → p < length s.processors → s.board.off ≡ true → next s (Step p) ≡ Err Off
refused_off s p place off =
    let there : nat_le (length s.processors) p ≡ false = grind (arith, nat_tests, place) in
    let is : refusal s (Step p) ≡ Some Off = rw (there, off) refl in refused_by s (Step p) Off is

pub refused_worn : (s : State) (p : ℕ) → p < length s.processors → s.board.off ≡ false → 9223372036854775807 ≤ s.made →
    next s (Step p) ≡ Err Worn
refused_worn s p place on worn =
    let there : nat_le (length s.processors) p ≡ false = grind (arith, nat_tests, place) in
    let is_worn_now : nat_le 9223372036854775807 s.made ≡ true = grind (arith, nat_tests, worn) in
    let is : refusal s (Step p) ≡ Some Worn = rw (there, on, is_worn_now) refl in refused_by s (Step p) Worn is

-- what an accepted Step says of the state before it
pub record IsOpen (s : State) (p : ℕ) (o : Outcome) (t : State) : Type 0 where
  pub place : p < length s.processors
  pub on : s.board.off ≡ false
  pub few : s.made < 9223372036854775807

pub open_step : (s : State) (p : ℕ) (o : Outcome) (t : State) → next s (Step p) ≡ Ok (o, t) → IsOpen s p o t
unfolding next
open_step s p o t h =
    let tests = passed (nat_le (length s.processors) p) s.board.off (nat_le 9223372036854775807 s.made) _ (o, t) h in
    let there : nat_le (length s.processors) p ≡ false = tests.0 in
    let fresh : nat_le 9223372036854775807 s.made ≡ false = tests.2 in
    record {
      place = grind (arith, nat_tests, there);
      on = tests.1;
      few = grind (arith, nat_tests, fresh);
    }

-- a Done of a console that sends
sends : (s : State) (latch : Option ℕ) (byte : ℕ) → latch ≡ Some byte →
    (r : Outcome × State) × (answered_done s (with_console (done_from latch s.board.console) s.board) ≡ Ok r)
sends s None byte h = absurd (let bad : ◌≡◌ {A = Option ℕ} None (Some byte) = h in cc)
sends s (Some b) byte h = (_, refl)

pub done_accepted : (s : State) (byte : ℕ) → refusal s Done ≡ None → s.board.console.latch ≡ Some byte → (r : Outcome × State) × (next s Done ≡ Ok r)
done_accepted s byte fits latch = let x = sends s s.board.console.latch byte latch in (x.0, allowed s Done fits ∙ x.1)
