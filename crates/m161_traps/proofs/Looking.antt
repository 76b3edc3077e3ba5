use Rattle.std.proofs.Common.{◌≡◌, ◌∙◌, refl, ap, sym, subst, ℕ, Bool, true, false, List, [], ◌∷◌, ◌++◌, append-nil}
use Rattle.std.specs.Prelude.{◌&&◌, not, cond, find, None, Some, Ok, option_to_list}
use Rattle.std.specs.List.{All, AllByRecursion}
use Rattle.std.proofs.lemmas.List.Elements.{recursion_from_All}
use Rattle.m161_cpu.specs.declared.processor.Outcome.{Outcome}
use Rattle.m161_cpu.specs.declared.processor.Outcome.TheVariants.{Ran, Trapped, Idle, PoweredOff, Conflict, Taken}
use Rattle.m161_elf.specs.declared.span.Span.{Span}
use Rattle.m161_machine.specs.declared.event.Entry.{Entry}
use Rattle.m161_machine.specs.declared.event.Event.{Event}
use Rattle.m161_machine.specs.declared.event.Event.TheVariants.{Step, Key, Done}
use Rattle.m161_machine.specs.History.{Leads, events_of}
use Rattle.m161_machine.specs.State.{State, next}
use Rattle.m161_traps.specs.declared.traps.Trap.{Trap}
use Rattle.m161_traps.specs.Traps.{is_empty_at, state_after, state_behind, trap_if, trap_of, traps_of}
use Rattle.m161_traps.specs.Unhandled.{first_unhandled, is_in_file, is_unhandled}
use Rattle.m161_traps.specs.Watching.{IsToFile}
use Rattle.m161_traps.proofs.Counting.{state_append, traps_append}

-- The first trap for which an image has nothing, along a list of events.

find_behind : (test : Trap → Bool) (xs ys : List Trap) → find test xs ≡ None → find test (xs ++ ys) ≡ find test ys
find_behind test [] ys h = refl
find_behind test (x ∷ xs) ys h = by (test x) h (find_behind test xs ys)
  where
    by : (b : Bool) → cond b (Some x) (find test xs) ≡ None → (find test xs ≡ None → find test (xs ++ ys) ≡ find test ys) →
        cond b (Some x) (find test (xs ++ ys)) ≡ find test ys
    by true h rest = absurd cc
    by false h rest = rest h

find_before : (test : Trap → Bool) (xs ys : List Trap) (t : Trap) → find test xs ≡ Some t → find test (xs ++ ys) ≡ Some t
find_before test [] ys t h = absurd cc
find_before test (x ∷ xs) ys t h = by (test x) h (find_before test xs ys t)
  where
    by : (b : Bool) → cond b (Some x) (find test xs) ≡ Some t → (find test xs ≡ Some t → find test (xs ++ ys) ≡ Some t) →
        cond b (Some x) (find test (xs ++ ys)) ≡ Some t
    by true h rest = h
    by false h rest = rest h

-- none so far
pub first_behind : (spans : List Span) (s : State) (xs ys : List Event) → first_unhandled spans s xs ≡ None →
    first_unhandled spans s (xs ++ ys) ≡ first_unhandled spans (state_after s xs) ys
first_behind spans s xs ys h =
    ap (find (is_unhandled spans)) (traps_append s xs ys) ∙ find_behind (is_unhandled spans) (traps_of s xs) (traps_of (state_after s xs) ys) h

-- one so far
pub first_before : (spans : List Span) (s : State) (xs ys : List Event) (t : Trap) → first_unhandled spans s xs ≡ Some t →
    first_unhandled spans s (xs ++ ys) ≡ Some t
first_before spans s xs ys t h =
    ap (find (is_unhandled spans)) (traps_append s xs ys) ∙ find_before (is_unhandled spans) (traps_of s xs) (traps_of (state_after s xs) ys) t h

-- the same of one event
pub first_of_one : (spans : List Span) (s : State) (e : Event) → first_unhandled spans s (e ∷ []) ≡ find (is_unhandled spans) (option_to_list (trap_of s e (next s e)))
first_of_one spans s e = ap (find (is_unhandled spans)) (append-nil (option_to_list (trap_of s e (next s e))))

-- going on
pub joined_none : (spans : List Span) (s u v : State) (xs ys : List Event) → first_unhandled spans s xs ≡ None → u ≡ state_after s xs →
    first_unhandled spans u ys ≡ None → v ≡ state_after u ys → (first_unhandled spans s (xs ++ ys) ≡ None) × (v ≡ state_after s (xs ++ ys))
joined_none spans s u v xs ys none at more behind = (
  first_behind spans s xs ys none ∙ ap (λ w. first_unhandled spans w ys) (sym at) ∙ more,
  behind ∙ ap (λ w. state_after w ys) at ∙ sym (state_append s xs ys),
)

pub joined_some : (spans : List Span) (s u : State) (xs ys zs : List Event) (t : Trap) → first_unhandled spans s xs ≡ None → u ≡ state_after s xs →
    first_unhandled spans u ys ≡ Some t → first_unhandled spans s ((xs ++ ys) ++ zs) ≡ Some t
joined_some spans s u xs ys zs t none at found =
    first_before spans s (xs ++ ys) zs t (first_behind spans s xs ys none ∙ ap (λ w. first_unhandled spans w ys) (sym at) ∙ found)

-- the state along entries
pub leads_state : (es : List Entry) (s t : State) → Leads s es t → t ≡ state_after s (events_of es)
leads_state [] s t h = h
leads_state (e ∷ es) s t h = leads_state es h.0 t h.2 ∙ ap (λ r. state_after (state_behind s r) (events_of es)) (sym h.1)

-- where each trap is to a vector at which the file has a byte, there is none

and_not : (a b : Bool) → b ≡ true → (a && not b) ≡ false
and_not true b h = ap not h
and_not false b h = refl

none_if : (spans : List Span) (place p : ℕ) (o : Outcome) (t : State) → IsToFile spans o → find (is_unhandled spans) (option_to_list (trap_if place p o t)) ≡ None
none_if spans place p Ran t h = refl
none_if spans place p (Trapped code to) t h = rw (and_not (is_empty_at t to) (is_in_file spans to) h) refl
none_if spans place p Idle t h = refl
none_if spans place p PoweredOff t h = refl
none_if spans place p (Conflict row other) t h = refl
none_if spans place p Taken t h = refl

none_of : (spans : List Span) (s t : State) (e : Event) (o : Outcome) → IsToFile spans o → find (is_unhandled spans) (option_to_list (trap_of s e (Ok (o, t)))) ≡ None
none_of spans s t (Step p) o h = none_if spans s.made p o t h
none_of spans s t (Key byte) o h = refl
none_of spans s t Done o h = refl

none_by : (spans : List Span) (es : List Entry) (s t : State) → Leads s es t → AllByRecursion (λ (e : Entry). IsToFile spans e.outcome) es →
    first_unhandled spans s (events_of es) ≡ None
none_by spans [] s t leads all = refl
none_by spans (e ∷ es) s t leads all =
    let u = leads.0 in
    subst (λ r. find (is_unhandled spans) (option_to_list (trap_of s e.event r) ++ traps_of (state_behind s r) (events_of es)) ≡ None) (sym leads.1)
    (find_behind (is_unhandled spans) (option_to_list (trap_of s e.event (Ok (e.outcome, u)))) (traps_of u (events_of es)) (none_of spans s u e.event e.outcome all.0)
    ∙ none_by spans es u t leads.2 all.1)

pub none_unhandled : (spans : List Span) (es : List Entry) (s t : State) → Leads s es t → All (λ (e : Entry). IsToFile spans e.outcome) es →
    first_unhandled spans s (events_of es) ≡ None
none_unhandled spans es s t leads all =
    none_by spans es s t leads (recursion_from_All (λ (e : Entry). IsToFile spans e.outcome) es all)
