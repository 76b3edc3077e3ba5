use Rattle.std.proofs.Common.{◌≡◌, ◌∙◌, refl, ap, sym, ℕ, ◌+◌, ◌<◌, Bool, true, false, List, [], ◌∷◌, length, set, get_or, arith}
use Rattle.std.specs.Prelude.{◌==◌, if◌then◌else◌}
use Rattle.std.proofs.lemmas.Bool.Decides.{nat_tests}
use Rattle.std.proofs.lemmas.List.{get_or-set_same, get_or-set_other, length-map, length-set}
use Rattle.std.proofs.lemmas.List.Sums.{sum_by-cons}
use Rattle.m161_cpu.specs.Processor.{Processor}
use Rattle.m161_machine.specs.declared.event.Entry.{Entry}
use Rattle.m161_machine.specs.declared.event.Event.{Event}
use Rattle.m161_machine.specs.declared.event.Event.TheVariants.{Step, Key, Done}
use Rattle.m161_machine.specs.State.{State, counts}
use Rattle.m161_machine.specs.helpers.State.{counts_after}
use Rattle.m161_machine.specs.History.{History, CountsSteps, IsReplay, Leads, events_of, is_step_of, steps_of}
use Rattle.m161_machine.proofs.Counting.{counts_law}

-- What the counts of a run say of its events.

-- the counts after these events
abbrev pub counts_through : List Event → List ℕ → List ℕ
counts_through [] cs = cs
counts_through (e ∷ es) cs = counts_through es (counts_after e cs)

pub counts_run : (es : List Entry) (s t : State) → Leads s es t → counts t ≡ counts_through (events_of es) (counts s)
counts_run [] s t h = ap counts h
counts_run (e ∷ es) s t h =
    counts_run es h.0 t h.2 ∙ ap (counts_through (events_of es)) (counts_law s h.0 e.event e.outcome h.1)

pub same_length : (e : Event) (cs : List ℕ) → length (counts_after e cs) ≡ length cs
same_length (Step q) cs = length-set cs q (get_or cs q 0 + 1)
same_length (Key byte) cs = refl
same_length Done cs = refl

-- a processor's count goes up by its Steps
count_by_step : (b : Bool) (q p : ℕ) (cs : List ℕ) → (q == p) ≡ b → p < length cs →
    get_or (set cs q (get_or cs q 0 + 1)) p 0 ≡ get_or cs p 0 + (if b then 1 else 0)
count_by_step true q p cs test inside =
    let same : q ≡ p = grind (arith, nat_tests, test) in
    ap (λ n. get_or (set cs n (get_or cs n 0 + 1)) p 0) same ∙ get_or-set_same cs p (get_or cs p 0 + 1) 0 inside
count_by_step false q p cs test inside =
    let other : (p ≡ q) → ⊥ = λ same. absurd (let bad : ⊥ = grind (arith, nat_tests, test, same) in bad) in
    let none : get_or cs p 0 + 0 ≡ get_or cs p 0 = omega arith in
    get_or-set_other cs q p (get_or cs q 0 + 1) 0 other ∙ sym none

count_after : (e : Event) (p : ℕ) (cs : List ℕ) → p < length cs →
    get_or (counts_after e cs) p 0 ≡ get_or cs p 0 + (if is_step_of p e then 1 else 0)
count_after (Step q) p cs inside = count_by_step (q == p) q p cs refl inside
count_after (Key byte) p cs inside = omega arith
count_after Done p cs inside = omega arith

pub count_through : (es : List Event) (p : ℕ) (cs : List ℕ) → p < length cs →
    get_or (counts_through es cs) p 0 ≡ get_or cs p 0 + steps_of p es
count_through [] p cs inside = omega arith
count_through (e ∷ es) p cs inside =
    let still : p < length (counts_after e cs) = omega (arith, inside, same_length e cs) in
    let rest = count_through es p (counts_after e cs) still in
    let here = count_after e p cs inside in
    let more = sum_by-cons (λ (x : Event). if is_step_of p x then 1 else 0) e es in
    omega (arith, rest, here, more)

pub length_through : (es : List Event) (cs : List ℕ) → length (counts_through es cs) ≡ length cs
length_through [] cs = refl
length_through (e ∷ es) cs = length_through es (counts_after e cs) ∙ same_length e cs

pub counts_steps : (h : History) → IsReplay h → CountsSteps h
counts_steps h replay p inside =
    let es = events_of h.log in
    let cs = counts h.base in
    let through : counts h.state ≡ counts_through es cs = counts_run h.log h.base h.state replay in
    let number : length (counts h.state) ≡ length h.state.processors =
    length-map h.state.processors (λ (q : Processor). q.count) in
    let there : p < length cs =
    omega (arith, inside, number, ap length through, length_through es cs) in
    ap (λ l. get_or l p 0) through ∙ count_through es p cs there
