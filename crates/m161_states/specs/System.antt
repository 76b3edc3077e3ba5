use Rattle.std.specs.Prelude.{ℕ, ◌+◌, Bool, true, false, nat_lt, ◌==◌, if◌then◌else◌, List, [], ◌∷◌, map, slice_get, Option, None, Some, option_map, Result, Ok, Err}
use Rattle.m161_cpu.specs.declared.processor.Outcome.{Outcome}
use Rattle.m161_machine.specs.declared.event.Event.{Event}
use Rattle.m161_machine.specs.declared.event.Event.TheVariants.{Step, Key, Done}
use Rattle.m161_machine.specs.declared.event.Refusal.{Refusal}
use Rattle.m161_machine.specs.History.{boot_state}
use Rattle.m161_machine.specs.State.{State, next as result_of}
use Rattle.m161_machine.specs.Uses.{uses_in}
use Rattle.m161_audit.specs.declared.watch.Watch.{Watch}
use Rattle.m161_judge.specs.Verdict.{Criteria}
use Rattle.m161_alike.specs.Law.{sent_by}
use Rattle.m161_states.specs.Question.{Question, booted, processors_of}

-- The system: its states, its events, and the state behind an event.

-- what is kept of a watch
pub record Flags : Type 0 where
  -- the page table's entry was stored to
  pub changed : Bool
  -- behind the last store to it the mark was
  pub gone_on : Bool

pub record Explored : Type 0 where
  pub state : State
  -- how many keys were typed
  pub typed : ℕ
  -- of each watch
  pub flags : List Flags
  -- how many bytes the console has sent, where they are the first of the output that is asked for;
  -- none where they aren't, or no output is
  pub agreed : Option ℕ

-- before any store
abbrev pub no_flags : Watch → Flags
no_flags w = record { changed = false; gone_on = false }

-- before any byte is sent
abbrev pub agreed_at_boot : Option (List ℕ) → Option ℕ
agreed_at_boot output = option_map (λ asked. 0) output

abbrev pub start : Question → Explored
start q = record {
  state = boot_state (booted q);
  typed = 0;
  flags = map no_flags q.goal.watches;
  agreed = agreed_at_boot q.goal.output;
}

-- an event by its number, where so many keys are typed: a number below that of the processors is a Step,
-- the next one Done, and any other the next key; there is none where all are typed
abbrev pub event_named : ℕ → List ℕ → ℕ → ℕ → Option Event
event_named processors keys typed n =
    if nat_lt n processors then Some (Step n)
    else if n == processors then Some Done
    else option_map (λ byte. Key byte) (slice_get keys typed)

abbrev pub event_of : Question → Explored → ℕ → Option Event
event_of q x n = event_named (processors_of q) q.goal.keys x.typed n

-- a state as before any event, so that it isn't worn
abbrev pub fresh : State → State
fresh s = record s { made = 0 }

abbrev pub typed_after : Event → ℕ → ℕ
typed_after (Step p) typed = typed
typed_after (Key byte) typed = typed + 1
typed_after Done typed = typed

-- the word that an event stores to
abbrev pub stored_by : Event → State → Option ℕ
stored_by (Step p) s = (uses_in p s).stored
stored_by (Key byte) s = None
stored_by Done s = None

-- after a store to a word
abbrev pub flags_after : ℕ → Watch → Flags → Flags
flags_after word w f =
    if w.pte == word then record { changed = true; gone_on = false }
    else if w.done == word then record { changed = f.changed; gone_on = f.changed }
    else f

abbrev pub all_after : ℕ → List Watch → List Flags → List Flags
all_after word [] flags = []
all_after word (w ∷ ws) [] = []
all_after word (w ∷ ws) (f ∷ fs) = flags_after word w f ∷ all_after word ws fs

abbrev pub flags_behind : Option ℕ → List Watch → List Flags → List Flags
flags_behind None watches flags = flags
flags_behind (Some word) watches flags = all_after word watches flags

abbrev pub is_byte : ℕ → Option ℕ → Bool
is_byte byte None = false
is_byte byte (Some other) = other == byte

-- after one more byte
abbrev pub agreed_with : List ℕ → ℕ → Option ℕ → Option ℕ
agreed_with asked byte None = None
agreed_with asked byte (Some n) =
    if is_byte byte (slice_get asked n) then Some (n + 1) else None

-- after these bytes
abbrev pub agreed_behind : List ℕ → List ℕ → Option ℕ → Option ℕ
agreed_behind asked [] agreed = agreed
agreed_behind asked (byte ∷ bytes) agreed =
    agreed_behind asked bytes (agreed_with asked byte agreed)

abbrev pub agreed_after : Option (List ℕ) → List ℕ → Option ℕ → Option ℕ
agreed_after None bytes agreed = agreed
agreed_after (Some asked) bytes agreed = agreed_behind asked bytes agreed

-- behind an accepted event, which leads to this state of the machine
abbrev pub behind : Criteria → Explored → Event → State → Explored
behind goal x e t = record {
  state = t;
  typed = typed_after e x.typed;
  flags = flags_behind (stored_by e x.state) goal.watches x.flags;
  agreed = agreed_after goal.output (sent_by e x.state) x.agreed;
}

abbrev pub accepted :
    Criteria → Explored → Event → Result (Outcome × State) Refusal → Option Explored
accepted goal x e (Ok given) = Some (behind goal x e given.1)
accepted goal x e (Err refusal) = None

abbrev pub next_by : Criteria → Explored → Option Event → Option Explored
next_by goal x None = None
next_by goal x (Some e) = accepted goal x e (result_of (fresh x.state) e)

-- the state behind an event, where the machine accepts it
abbrev pub next : Question → Explored → ℕ → Option Explored
next q x n = next_by q.goal x (event_of q x n)

-- the word of RAM that an event stores to, if it is made
abbrev pub stored_of : Option Event → State → Option ℕ
stored_of None s = None
stored_of (Some e) s = stored_by e s

abbrev pub stored_if : Option Explored → Option ℕ → Option ℕ
stored_if None word = None
stored_if (Some y) word = word

-- the word that an event stores to, where the machine accepts it
abbrev pub stored : Question → Explored → ℕ → Option ℕ
stored q x n = stored_if (next q x n) (stored_of (event_of q x n) x.state)
