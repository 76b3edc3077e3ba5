use Rattle.std.specs.Prelude.{◌≡◌, ◌⊎◌, ℕ, ◌<◌, Bool, true, false, not, ◌==◌, ◌&&◌, ◌||◌, List, [], ◌∷◌, ◌++◌, length, take, slice_get, Some, Result, Ok, Err}
use Rattle.m161_tlb.specs.declared.row.Row.{Row}
use Rattle.m161_tlb.specs.Row.{row_of_words}
use Rattle.m161_cpu.specs.declared.processor.Outcome.{Outcome}
use Rattle.m161_cpu.specs.declared.uses.Via.{Via}
use Rattle.m161_machine.specs.declared.event.Event.{Event}
use Rattle.m161_machine.specs.declared.event.Event.TheVariants.{Step}
use Rattle.m161_machine.specs.declared.event.Refusal.{Refusal}
use Rattle.m161_machine.specs.State.{State, next, processor_at, word_in}
use Rattle.m161_machine.specs.StoreHistory.{StoreState, live_state, next_store}
use Rattle.m161_machine.specs.Uses.{uses_in}
use Rattle.m161_audit.specs.declared.finding.Finding.{Finding}
use Rattle.m161_audit.specs.declared.finding.Finding.TheVariants.{Clean, Stale}
use Rattle.m161_audit.specs.declared.watch.Watch.{Watch}

-- Stale uses of the TLB. Black and others, Translation Lookaside Buffer Consistency: A Software
-- Approach, 1989: one processor, the initiator, changes a page table; the others drop the old
-- mapping from their TLBs before the initiator goes on. After that no processor uses the old
-- mapping.

-- one of these words is this one
abbrev pub touches : ℕ → List ℕ → Bool
touches word [] = false
touches word (w ∷ ws) = (word == w) || touches word ws

-- the initiator has gone on: a store changed the page table's entry, and after the last one to it
-- came one to the word that marks the end. What the image put there is no store
pub record HasGoneOn (w : Watch) (stores : List ℕ) : Type 0 where
  pub before : List ℕ
  pub after : List ℕ
  pub stores_are : stores ≡ before ++ w.pte ∷ after
  pub is_last : touches w.pte after ≡ false
  pub is_done : touches w.done after ≡ true

-- the page table's entry in a word, which is in EntryLo's form
abbrev pub entry_in : ℕ → Row
entry_in word = row_of_words 0 word

-- a row of the TLB is an old mapping: by the page table's entry the page isn't valid, or has another
-- frame, or may not be written although the row lets it be
abbrev pub is_old : Row → Row → Bool
is_old entry row = not entry.v || not (entry.frame == row.frame) || (not entry.d && row.d)

-- processor p gets a physical address of the watched page through an old mapping, after the
-- initiator has gone on
pub record IsStaleFor (s : StoreState) (p : ℕ) (v : Via) (w : Watch) : Type 0 where
  pub page_is : v.page ≡ w.page
  -- the identifier in EntryHi
  pub id_is : v.id ≡ w.id
  pub gone_on : HasGoneOn w s.stores
  pub word : ℕ
  pub word_is : word_in s.memory w.pte ≡ Some word
  pub row : Row
  pub row_is : slice_get (processor_at p s.processors).rows v.row ≡ Some row
  pub old : is_old (entry_in word) row ≡ true

-- the same for one of these watches
abbrev pub IsStaleVia : StoreState → List Watch → ℕ → Via → Type 0
IsStaleVia s watches p v =
    (i : ℕ) × (w : Watch) × (slice_get watches i ≡ Some w) × IsStaleFor s p v w

-- the next Step of p makes this use: its fetch, or, if that isn't stale, its access
abbrev pub UsesStale : StoreState → List Watch → ℕ → Via → Type 0
UsesStale s watches p v =
    (((uses_in p (live_state s)).fetch ≡ Some v) × IsStaleVia s watches p v)
    ⊎ (((f : Via) → (uses_in p (live_state s)).fetch ≡ Some f → IsStaleVia s watches p f → ⊥)
    × ((uses_in p (live_state s)).access ≡ Some v) × IsStaleVia s watches p v)

-- an event is accepted, and is a stale use by processor p
pub record IsStale (s : StoreState) (watches : List Watch) (e : Event) (p : ℕ) (v : Via)
    : Type 0 where
  pub event_is : e ≡ Step p
  pub given : Outcome × State
  pub accepted : next (live_state s) e ≡ Ok given
  pub uses : UsesStale s watches p v

-- the state after an event; a refused one changes nothing
abbrev pub state_given : StoreState → Result (Outcome × StoreState) Refusal → StoreState
state_given s (Ok given) = given.1
state_given s (Err refusal) = s

abbrev pub after_event : StoreState → Event → StoreState
after_event s e = state_given s (next_store s e)

abbrev pub after_events : StoreState → List Event → StoreState
after_events s [] = s
after_events s (e ∷ es) = after_events (after_event s e) es

-- the event at place k of a run from s is a stale use, judged by the state before it
abbrev pub IsStaleAt : StoreState → List Event → List Watch → ℕ → ℕ → Via → Type 0
IsStaleAt s events watches k p v =
    (e : Event) × (slice_get events k ≡ Some e)
    × IsStale (after_events s (take k events)) watches e p v

-- no event at the places below n is
abbrev pub NoneBefore : StoreState → List Event → List Watch → ℕ → Type 0
NoneBefore s events watches n =
    (k : ℕ) → k < n → (p : ℕ) (v : Via) → IsStaleAt s events watches k p v → ⊥

-- the finding of a run from s: no place is a stale use; or this is the least that is
abbrev pub IsFinding : StoreState → List Event → List Watch → Finding → Type 0
IsFinding s events watches Clean = NoneBefore s events watches (length events)
IsFinding s events watches (Stale place p address row) =
    NoneBefore s events watches place
    × ((v : Via) × (v.address ≡ address) × (v.row ≡ row) × IsStaleAt s events watches place p v)

-- the place of a finding is below n
abbrev pub IsBelow : ℕ → Finding → Type 0
IsBelow n Clean = Unit {0}
IsBelow n (Stale place p address row) = place < n
