use Rattle.std.proofs.Common.{rules, ◌≡◌, ◌∙◌, refl, ap, ap₂, sym, subst, ℕ, zero, suc, ◌+◌, ◌-◌, ◌<◌, ◌≤◌, Bool, true, false, List, [], ◌∷◌, length, set, get_or, map, replicate, Option, None, Some, Result, Ok, Err, arith}
use Rattle.std.specs.Prelude.{nat_le, sum, ◌&&◌}
use Rattle.std.specs.List.{list_all}
use Rattle.std.proofs.lemmas.Bool.Decides.{nat_tests}
use Rattle.std.proofs.lemmas.List.{get_or-set_same, length-map, length-set}
use Rattle.std.proofs.lemmas.List.Sums.{sum_by-set}
use Rattle.m161_cpu.specs.declared.processor.Outcome.{Outcome}
use Rattle.m161_cpu.specs.Processor.{Processor, stopped_processor}
use Rattle.m161_machine.specs.declared.event.Entry.{Entry}
use Rattle.m161_machine.specs.declared.event.Event.{Event}
use Rattle.m161_machine.specs.declared.event.Event.TheVariants.{Step, Key, Done}
use Rattle.m161_machine.specs.declared.event.Refusal.{Refusal}
use Rattle.m161_machine.specs.declared.event.Refusal.TheVariants.{BadProcessor, Off, Worn, NoMemory}
use Rattle.m161_isa.specs.Choice.{first_answer}
use Rattle.m161_machine.specs.State.{State, answer, counts, is_worn, next, refusal, unless}
use Rattle.m161_machine.specs.helpers.State.{counts_after}
use Rattle.m161_machine.specs.History.{History, Answers, Continues, IsReached, IsReplay, Leads, Refuses, boot_state, events_of}
use Rattle.m161_machine.proofs.Counting.{counts_law}
use Rattle.m161_machine.proofs.Counted.{counts_run, counts_through, length_through}
use Rattle.m161_machine.proofs.Made.{counted}
use Rattle.m161_threads.specs.Runs.{is_step_below}
use Rattle.m161_threads.specs.Shares.{IsKept}

-- What an accepted and a refused event show of a machine.

-- an event that is accepted has no refusal
none_of : (r : Option Refusal) (x : Result (Outcome × State) Refusal) (y : Outcome × State) → unless r x ≡ Ok y → r ≡ None
none_of None x y h = refl
none_of (Some r) x y h = absurd (let bad : ◌≡◌ {A = Result (Outcome × State) Refusal} (Err r) (Ok y) = h in cc)

no_refusal : (s t : State) (e : Event) (o : Outcome) → next s e ≡ Ok (o, t) → refusal s e ≡ None
unfolding next
no_refusal s t e o h = none_of (refusal s e) (answer s e) (o, t) h

first_false : (test : Bool) (r : Refusal) (rest : List (Bool × Refusal)) → first_answer ((test, r) ∷ rest) ≡ None → test ≡ false
first_false true r rest h = absurd (let bad : ◌≡◌ {A = Option Refusal} (Some r) None = h in cc)
first_false false r rest h = refl

second_false : (test : Bool) (r : Refusal) (rest : List (Bool × Refusal)) → first_answer ((test, r) ∷ rest) ≡ None → first_answer rest ≡ None
second_false true r rest h = absurd (let bad : ◌≡◌ {A = Option Refusal} (Some r) None = h in cc)
second_false false r rest h = h

pub was_on : (s t : State) (e : Event) (o : Outcome) → next s e ≡ Ok (o, t) → s.board.off ≡ false
was_on s t (Step p) o h =
    let none = no_refusal s t (Step p) o h in
    first_false s.board.off Off ((is_worn s.made, Worn) ∷ [])
    (second_false (nat_le (length s.processors) p) BadProcessor ((s.board.off, Off) ∷ (is_worn s.made, Worn) ∷ []) none)
was_on s t (Key byte) o h = first_false s.board.off Off ((is_worn s.made, Worn) ∷ []) (no_refusal s t (Key byte) o h)
was_on s t Done o h = first_false s.board.off Off ((is_worn s.made, Worn) ∷ []) (no_refusal s t Done o h)

pub was_there : (s t : State) (p : ℕ) (o : Outcome) → next s (Step p) ≡ Ok (o, t) → p < length s.processors
was_there s t p o h =
    let inside = first_false (nat_le (length s.processors) p) BadProcessor ((s.board.off, Off) ∷ (is_worn s.made, Worn) ∷ [])
    (no_refusal s t (Step p) o h) in
    grind (arith, nat_tests, inside)

-- a Step is refused as Off where the machine is off
off_of : (bad off full : Bool) → first_answer ((bad, BadProcessor) ∷ (off, Off) ∷ (full, Worn) ∷ []) ≡ Some Off → off ≡ true
off_of true off full h = absurd (let bad : ◌≡◌ {A = Option Refusal} (Some BadProcessor) (Some Off) = h in cc)
off_of false true full h = refl
off_of false false true h = absurd (let bad : ◌≡◌ {A = Option Refusal} (Some Worn) (Some Off) = h in cc)
off_of false false false h = absurd (let bad : ◌≡◌ {A = Option Refusal} None (Some Off) = h in cc)

off_unless : (r : Option Refusal) (y : Outcome × State) (e : Event) →
    Refuses (unless r (Ok y)) e Off → r ≡ Some Off
off_unless None y e h = absurd (let bad : Off ≡ NoMemory = h.0 in cc)
off_unless (Some r) y e h = ap (λ q. Some q) (sym h)

refused_by : (r : Option Refusal) (y : Outcome × State) → unless r (Ok y) ≡ Err Off → r ≡ Some Off
refused_by None y h = absurd (let bad : ◌≡◌ {A = Result (Outcome × State) Refusal} (Ok y) (Err Off) = h in cc)
refused_by (Some r) y h =
    let same : ◌≡◌ {A = Result (Outcome × State) Refusal} (Err r) (Err Off) = h in
    let is : r ≡ Off = cc in ap (λ q. Some q) is

pub off_is : (s : State) (p : ℕ) → Refuses (next s (Step p)) (Step p) Off → s.board.off ≡ true
unfolding next
off_is s p h = off_of (nat_le (length s.processors) p) s.board.off (is_worn s.made)
    (off_unless (refusal s (Step p)) _ (Step p) h)

-- one Step more in one count, and in the sum of all
pub counted_here : (m n : History) (p : ℕ) (o : Outcome) → Answers m (Step p) (Ok o) n →
    get_or (counts n.state) p 0 ≡ get_or (counts m.state) p 0 + 1
counted_here m n p o a =
    let there : p < length (counts m.state) =
    subst (λ k. p < k) (sym (length-map m.state.processors (λ (q : Processor). q.count))) (was_there m.state n.state p o a.0) in
    ap (λ c. get_or c p 0) (counts_law m.state n.state (Step p) o a.0)
    ∙ get_or-set_same (counts m.state) p (get_or (counts m.state) p 0 + 1) 0 there

pub counted_in_sum : (m n : History) (p : ℕ) (o : Outcome) → Answers m (Step p) (Ok o) n →
    sum (counts n.state) ≡ sum (counts m.state) + 1
counted_in_sum m n p o a =
    let there : p < length (counts m.state) =
    subst (λ k. p < k) (sym (length-map m.state.processors (λ (q : Processor). q.count))) (was_there m.state n.state p o a.0) in
    ap sum (counts_law m.state n.state (Step p) o a.0)
    ∙ (let set_is = sum_by-set (λ x. x) (counts m.state) p (get_or (counts m.state) p 0 + 1) 0 there in omega (arith, set_is))

-- an accepted event is one Step at most
sum_after : (e : Event) (s t : State) (o : Outcome) → next s e ≡ Ok (o, t) → sum (counts_after e (counts s)) ≤ sum (counts s) + 1
sum_after (Step p) s t o h =
    let there : p < length (counts s) =
    subst (λ k. p < k) (sym (length-map s.processors (λ (q : Processor). q.count))) (was_there s t p o h) in
    let set_is = sum_by-set (λ x. x) (counts s) p (get_or (counts s) p 0 + 1) 0 there in
    omega (arith, set_is)
sum_after (Key byte) s t o h = omega arith
sum_after Done s t o h = omega arith

-- so a run has no more Steps than events
few_steps : (es : List Entry) (s t : State) → Leads s es t → sum (counts t) ≤ sum (counts s) + length es
few_steps [] s t h = let same = ap (λ (u : State). sum (counts u)) h in omega (arith, same)
few_steps (e ∷ es) s t h =
    let rest = few_steps es h.0 t h.2 in
    let one = sum_after e.event s h.0 e.outcome h.1 in
    let is = ap sum (counts_law s h.0 e.event e.outcome h.1) in
    omega (arith, rest, one, is)

-- an event that counts a Step is one, of a processor that there is
step_here : (e : Event) (s t : State) (o : Outcome) → next s e ≡ Ok (o, t) → sum (counts_after e (counts s)) ≡ sum (counts s) + 1 →
    is_step_below (length s.processors) e ≡ true
step_here (Step p) s t o h one = let there = was_there s t p o h in grind (arith, nat_tests, there)
step_here (Key byte) s t o h one = absurd (let bad : ⊥ = omega (arith, one) in bad)
step_here Done s t o h one = absurd (let bad : ⊥ = omega (arith, one) in bad)

same_number : (e : Event) (s t : State) (o : Outcome) → next s e ≡ Ok (o, t) → length t.processors ≡ length s.processors
same_number e s t o h =
    sym (length-map t.processors (λ (q : Processor). q.count)) ∙ ap length (counts_law s t e o h)
    ∙ length_through (e ∷ []) (counts s) ∙ length-map s.processors (λ (q : Processor). q.count)

-- where a run counts as many Steps as it has events, it has Steps alone
pub steps_alone : (es : List Entry) (s t : State) (n : ℕ) → length s.processors ≡ n → Leads s es t →
    sum (counts t) ≡ sum (counts s) + length es → list_all (is_step_below n) (events_of es) ≡ true
steps_alone [] s t n number h all = refl
steps_alone (x ∷ es) s t n number h all =
    let few = few_steps es h.0 t h.2 in
    let one = sum_after x.event s h.0 x.outcome h.1 in
    let is = ap sum (counts_law s h.0 x.event x.outcome h.1) in
    let here = step_here x.event s h.0 x.outcome h.1 (omega (arith, few, one, is, all)) in
    let rest = steps_alone es h.0 t n (same_number x.event s h.0 x.outcome h.1 ∙ number) h.2 (omega (arith, few, one, is, all)) in
    ap₂ (λ a b. a && b) (subst (λ k. is_step_below k x.event ≡ true) number here) rest

none_at_boot : (n : ℕ) → sum (map (λ (q : Processor). q.count) (replicate n stopped_processor)) ≡ 0
none_at_boot zero = refl
none_at_boot (suc n) = none_at_boot n

-- a machine has counted no more Steps than it has accepted events
pub few_in : (m : History) → IsReached m.start m.base → IsReplay m → sum (counts m.state) ≤ m.state.made
few_in m reached replay =
    let boot = boot_state m.start in
    let none = none_at_boot (m.start.conf.processors - 1) in
    let first = few_steps reached.0 boot m.base reached.1 in
    let second = few_steps m.log m.base m.state replay in
    let first_made = counted reached.0 boot m.base reached.1 in
    let second_made = counted m.log m.base m.state replay in
    omega (arith, none, first, second, first_made, second_made)

-- what the lock keeps, after an input that counts no Step
pub keeps_input : (m n : History) (e : Event) (r : Result Outcome Refusal) (steps offs : ℕ) →
    ((c : List ℕ) → counts_after e c ≡ c) → Answers m e r n → IsKept m steps offs → IsKept n steps offs
keeps_input m n e (Ok o) steps offs same a kept = (
  kept.0 ∙ ap sum (sym (same (counts m.state)) ∙ sym (counts_law m.state n.state e o a.0)),
  λ some. absurd (let on = was_on m.state n.state e o a.0 in let off = kept.1 some in let bad : false ≡ true = sym on ∙ off in cc),
)
keeps_input m n e (Err refusal) steps offs same a kept =
    let P : History → Type 0 = λ h. IsKept h steps offs in subst P (sym a.1) kept

-- and after a Step that the ledger counts
pub keeps_step : (m n : History) (p steps offs : ℕ) (o : Outcome) →
    Answers m (Step p) (Ok o) n → IsKept m steps offs → IsKept n (steps + 1) offs
keeps_step m n p steps offs o a kept = (
  ap (λ k. k + 1) kept.0 ∙ sym (counted_in_sum m n p o a),
  λ some. absurd (let on = was_on m.state n.state (Step p) o a.0 in let off = kept.1 some in let bad : false ≡ true = sym on ∙ off in cc),
)

-- a refused Step leaves a machine that is off, where that is why
pub off_after : (m n : History) (p : ℕ) (r : Refusal) → Answers m (Step p) (Err r) n → r ≡ Off → n.state.board.off ≡ true
off_after m n p r a why =
    ap (λ (h : History). h.state.board.off) a.1
    ∙ off_is m.state p (subst (Refuses (next m.state (Step p)) (Step p)) why a.0)

-- a burst counts as many Steps as it has
through_burst : (n p : ℕ) (cs : List ℕ) → p < length cs →
    (sum (counts_through (replicate n (Step p)) cs) ≡ sum cs + n) × (get_or (counts_through (replicate n (Step p)) cs) p 0 ≡ get_or cs p 0 + n)
through_burst zero p cs inside = (omega arith, omega arith)
through_burst (suc n) p cs inside =
    let more = set cs p (get_or cs p 0 + 1) in
    let rest = through_burst n p more (subst (λ k. p < k) (sym (length-set cs p (get_or cs p 0 + 1))) inside) in
    let here = get_or-set_same cs p (get_or cs p 0 + 1) 0 inside in
    let set_is = sum_by-set (λ x. x) cs p (get_or cs p 0 + 1) 0 inside in
    let first = rest.0 in
    let second = rest.1 in
    (omega (arith, first, set_is), omega (arith, second, here))

-- the first event of a burst was accepted
first_there : (n p : ℕ) (es : List Entry) (s t : State) → events_of es ≡ replicate (suc n) (Step p) → Leads s es t →
    (p < length (counts s)) × (s.board.off ≡ false)
first_there n p [] s t is h = absurd (let bad = ap length is in let no : ⊥ = omega (arith, bad) in no)
first_there n p (e ∷ es) s t is h =
    let event_is : e.event ≡ Step p = ap (λ (xs : List Event). get_or xs 0 e.event) is in
    let accepted : next s (Step p) ≡ Ok (e.outcome, h.0) = subst (λ (x : Event). next s x ≡ Ok (e.outcome, h.0)) event_is h.1 in (
      subst (λ k. p < k) (sym (length-map s.processors (λ (q : Processor). q.count))) (was_there s h.0 p e.outcome accepted),
      was_on s h.0 (Step p) e.outcome accepted,
    )

-- what a burst does to the counts, and that it finds the machine on if it makes a Step
pub record Counts (s : State) (p n : ℕ) (t : State) : Type 0 where
  pub own : get_or (counts t) p 0 ≡ get_or (counts s) p 0 + n
  pub all : sum (counts t) ≡ sum (counts s) + n
  pub on : (s.board.off ≡ true) → t.board.off ≡ true

none_left : (p : ℕ) (es : List Entry) (s t : State) → events_of es ≡ replicate 0 (Step p) → Leads s es t → t ≡ s
none_left p [] s t is h = h
none_left p (e ∷ es) s t is h = absurd (let bad = ap length is in let no : ⊥ = omega (arith, bad) in no)

pub counts_burst : (n p : ℕ) (es : List Entry) (s t : State) → events_of es ≡ replicate n (Step p) → Leads s es t → Counts s p n t
counts_burst zero p es s t is h =
    let same = none_left p es s t is h in
    let own = ap (λ (u : State). get_or (counts u) p 0) same in
    let all = ap (λ (u : State). sum (counts u)) same in
    record {
      own = omega (arith, own);
      all = omega (arith, all);
      on = λ off. ap (λ (u : State). u.board.off) same ∙ off;
    }
counts_burst (suc n) p es s t is h =
    let first = first_there n p es s t is h in
    let through : counts t ≡ counts_through (replicate (suc n) (Step p)) (counts s) =
    counts_run es s t h ∙ ap (λ xs. counts_through xs (counts s)) is in
    let both = through_burst (suc n) p (counts s) first.0 in
    record {
      own = ap (λ cs. get_or cs p 0) through ∙ both.1;
      all = ap sum through ∙ both.0;
      on = λ off. absurd (let bad : true ≡ false = sym off ∙ first.1 in cc);
    }

-- what the lock keeps, after a burst that the ledger counts
pub keeps_burst : (m n : History) (p made steps offs : ℕ) → Continues m (replicate made (Step p)) n → IsKept m steps offs → IsKept n (steps + made) offs
keeps_burst m n p made steps offs c kept =
    let counts_are = counts_burst made p c.entries m.state n.state c.events_are c.run_is in
    let all = counts_are.all in
    let before = kept.0 in
    (omega (arith, all, before), λ some. counts_are.on (kept.1 some))

pub counted_burst : (m n : History) (p made : ℕ) → Continues m (replicate made (Step p)) n →
    get_or (counts n.state) p 0 ≡ get_or (counts m.state) p 0 + made
counted_burst m n p made c = (counts_burst made p c.entries m.state n.state c.events_are c.run_is).own

-- a burst that a machine which is off ended
pub off_end : (s : State) (p : ℕ) → next s (Step p) ≡ Err Off → s.board.off ≡ true
unfolding next
off_end s p h = off_of (nat_le (length s.processors) p) s.board.off (is_worn s.made)
    (refused_by (refusal s (Step p)) _ h)
