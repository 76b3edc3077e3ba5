use Rattle.std.specs.Prelude.{◌≡◌, ℕ, ◌<◌, ◌≤◌, true, false, List, [], ◌∷◌, ◌++◌, length, slice_get, take, Option, None, Some, Result, Ok, Err, ◌⊎◌}
use Rattle.m161_cpu.specs.declared.processor.Outcome.{Outcome}
use Rattle.m161_cpu.specs.declared.processor.Outcome.TheVariants.{Idle}
use Rattle.m161_machine.specs.declared.event.Entry.{Entry}
use Rattle.m161_machine.specs.declared.event.Event.{Event}
use Rattle.m161_machine.specs.declared.event.Event.TheVariants.{Step}
use Rattle.m161_machine.specs.declared.event.Refusal.{Refusal}
use Rattle.m161_machine.specs.declared.event.Refusal.TheVariants.{Worn, NoMemory}
use Rattle.m161_machine.specs.State.{State, next}
use Rattle.m161_machine.specs.History.{Refuses}
use Rattle.m161_drive.specs.declared.cursor.Cursor.{Cursor}
use Rattle.m161_drive.specs.declared.run.Driven.{Driven}
use Rattle.m161_drive.specs.declared.run.Stop.{Stop}
use Rattle.m161_drive.specs.declared.run.Stop.TheVariants.{Off, End, Stuck, Refused}
use Rattle.m161_drive.specs.Policy.{Rules}
use Rattle.m161_drive.specs.Choice.{chosen_with, cursor_at, taken, type_key, wants_key}
use Rattle.m161_drive.specs.Ready.{is_asleep}

-- Driven runs.

-- in a state that isn't off, the policy chooses the event of this entry, if the next key is this one;
-- it is accepted with the entry's outcome, and this is left
pub record Goes
    (rules : Rules) (key : Option ℕ) (c : Cursor) (s : State) (e : Entry) (d : Cursor) (t : State)
    : Type 0 where
  pub is_on : s.board.off ≡ false
  pub choice_is : (chosen_with rules key c s).0 ≡ Some e.event
  pub accepted : next s e.event ≡ Ok (e.outcome, t)
  pub cursor_is : d ≡ taken e.event t (chosen_with rules key c s).1

-- from a cursor and a state on, these are the entries of the events that the policy chooses, each in
-- its state; they lead to another cursor and state. `keys` are the keys by their numbers
abbrev pub Chooses :
    Rules → (ℕ → Option ℕ) → Cursor → State → List Entry → Cursor → State → Type 0
Chooses rules keys c s [] d t = (d ≡ c) × (t ≡ s)
Chooses rules keys c s (e ∷ es) d t =
    (b : Cursor) × (u : State) × Goes rules (keys c.typed) c s e b u × Chooses rules keys b u es d t

-- why no event is made in a state, if the next key is this one
abbrev pub Rests : Rules → Option ℕ → Cursor → State → Stop → Type 0
Rests rules key c s Off = s.board.off ≡ true
Rests rules key c s End = ⊥
Rests rules key c s Stuck = (s.board.off ≡ false) × ((chosen_with rules key c s).0 ≡ None)
Rests rules key c s (Refused refusal) =
    (s.board.off ≡ false)
    × ((e : Event) × ((chosen_with rules key c s).0 ≡ Some e) × Refuses (next s e) e refusal)

-- the next events of a run, with their entries in the first of these places, whatever the keys
-- behind the next one are; or why there is none
abbrev pub Turn :
    Rules → Option ℕ → Cursor → State → List Entry → Result ℕ Stop → Cursor → State → Type 0
Turn rules key c s places (Ok n) d t =
    (1 ≤ n) × (n ≤ length places)
    × ((keys : ℕ → Option ℕ) → keys c.typed ≡ key → Chooses rules keys c s (take n places) d t)
Turn rules key c s places (Err stop) d t = Rests rules key c s stop × (t ≡ s)

-- why a run of at most n events stops in a state, `made` events after its start
abbrev pub Stops : Rules → ℕ → ℕ → Cursor → State → Stop → Type 0
Stops rules n made c s Off = s.board.off ≡ true
Stops rules n made c s End = (s.board.off ≡ false) × (made ≡ n)
Stops rules n made c s Stuck = (made < n) × Rests rules (slice_get rules.keys c.typed) c s Stuck
Stops rules n made c s (Refused refusal) =
    (made < n) × Rests rules (slice_get rules.keys c.typed) c s (Refused refusal)

-- a driven run from a state: the policy chose exactly the events of these entries, with a new cursor,
-- until the run stopped in another state
pub record Drives
    (rules : Rules) (n : ℕ) (s : State) (driven : Driven) (entries : List Entry) (t : State)
    : Type 0 where
  pub cursor : Cursor
  pub made_is : length entries ≡ driven.made
  pub few : driven.made ≤ n
  pub chosen_are :
      Chooses rules (slice_get rules.keys) (cursor_at rules s) s entries cursor t
  pub stops : Stops rules n driven.made cursor t driven.stop

-- at most n events that the policy chose, with a new cursor, lead from a state to another
abbrev pub BeginsRun : Rules → ℕ → State → State → Type 0
BeginsRun rules n s t =
    (entries : List Entry) × (cursor : Cursor) × (length entries ≤ n)
    × Chooses rules (slice_get rules.keys) (cursor_at rules s) s entries cursor t

-- what has something of the entries so far has it of these too, behind them
abbrev pub IsNoted :
    {A : Type 0} → (ℕ → A → List Entry → Type 0) → A → List Entry → A → Type 0
IsNoted has old entries new =
    (room : ℕ) (so_far : List Entry) → has room old so_far → has room new (so_far ++ entries)

-- the law of every choice: in a state that isn't off, the chosen event is refused for Worn or, by
-- want of memory, for NoMemory alone
abbrev pub ChoosesAccepted : Rules → Option ℕ → Cursor → State → Type 0
ChoosesAccepted rules key c s =
    (e : Event) (refusal : Refusal) → s.board.off ≡ false →
    (chosen_with rules key c s).0 ≡ Some e → Refuses (next s e) e refusal →
    (refusal ≡ Worn) ⊎ (refusal ≡ NoMemory)

-- the law of sleep: a Step of a state that is asleep is idle, and the state after it is asleep
abbrev pub StaysAsleep : State → Type 0
StaysAsleep s =
    (p : ℕ) (o : Outcome) (t : State) → is_asleep s ≡ true → next s (Step p) ≡ Ok (o, t) →
    (o ≡ Idle) × (is_asleep t ≡ true)

-- the laws of keys, for a caller who asks for a key only where one is wanted: elsewhere the choice is
-- the same whatever the next key is
abbrev pub KeyIsUnread : Rules → Cursor → State → Type 0
KeyIsUnread rules c s =
    (j k : Option ℕ) → wants_key rules c s ≡ false →
    chosen_with rules j c s ≡ chosen_with rules k c s

-- where one is wanted it is typed, and without one a Step is next
abbrev pub KeyIsTyped : Rules → Cursor → State → Type 0
KeyIsTyped rules c s =
    (key : Option ℕ) → wants_key rules c s ≡ true → chosen_with rules key c s ≡ type_key key c s

-- without a key none is counted
abbrev pub NoKeyIsCounted : Rules → Cursor → State → Type 0
NoKeyIsCounted rules c s = (chosen_with rules None c s).1.typed ≡ c.typed

-- and the policy's own keys don't matter
abbrev pub KeysAreApart : Rules → Cursor → State → Type 0
KeysAreApart rules c s =
    (key : Option ℕ) (keys : List ℕ) →
    chosen_with (record rules { keys = keys }) key c s ≡ chosen_with rules key c s
