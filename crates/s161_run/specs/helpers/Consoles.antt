use Rattle.std.specs.Prelude.{◌≡◌, ◌⊎◌, ℕ, Bool, true, false, List, [], ◌∷◌, drop, length, Option, None, Some, Result, Ok, Err, if◌then◌else◌}
use Rattle.std.specs.Io.KnownBytes.{Appends, Consumes, IsAtEnd}
use Rattle.m161_machine.specs.declared.event.Entry.{Entry}
use Rattle.m161_machine.specs.State.{State}
use Rattle.m161_drive.specs.declared.cursor.Cursor.{Cursor}
use Rattle.m161_drive.specs.declared.run.Stop.{Stop}
use Rattle.m161_drive.specs.declared.run.Stop.TheVariants.{Off, End}
use Rattle.m161_drive.specs.Choice.{wants_key}
use Rattle.m161_drive.specs.Drive.{Goes as GoesOn, Rests}
use Rattle.m161_drive.specs.Policy.{Rules}
use Rattle.s161_base.specs.declared.fault.Fault.{Fault}
use Rattle.s161_base.specs.declared.fault.Fault.TheVariants.{Input, Output}
use Rattle.s161_base.specs.declared.fault.Unread.TheVariants.{Failed}
use Rattle.s161_base.specs.Streams.{AppendsSome}

-- The next event of a run at a terminal.

-- why a run stops of which all events were made that were asked for
abbrev pub last_stop : State → Stop
last_stop s = if s.board.off then Off else End

-- the next key, read only if one is wanted; there is none once the input has ended
abbrev pub GivesKey :
    Bool → Bool → Option (List ℕ) → Option ℕ → Bool → Option (List ℕ) → Type 0
GivesKey false ended left key e l = (key ≡ None) × (e ≡ ended) × (l ≡ left)
GivesKey true ended left None e l = (e ≡ true) × IsAtEnd l × Consumes left l []
GivesKey true ended left (Some byte) e l =
    (ended ≡ false) × (e ≡ false) × Consumes left l (byte ∷ [])

-- the event that is chosen, with this next key, is made
abbrev pub Makes : Rules → Option ℕ → Cursor → State → Cursor → State → Type 0
Makes rules key c s d t = (e : Entry) × GoesOn rules key c s e d t

-- the bytes that a machine's console has sent since another state
abbrev pub sent_since : State → State → List ℕ
sent_since s t = drop (length s.board.console.output) t.board.console.output

-- the event that is chosen, with this next key, is made, and what the console has sent by it is
-- written; or none is made, and nothing is changed but the cursor
abbrev pub Turn :
    Rules → Option ℕ → Cursor → State → Option (List ℕ) → Option Stop → Cursor → State →
    Option (List ℕ) → Type 0
Turn rules key c s o None d t u = Makes rules key c s d t × Appends o u (sent_since s t)
Turn rules key c s o (Some stop) d t u = Rests rules key c s stop × (t ≡ s) × (u ≡ o)

-- where a run is: its cursor and its state, whether the input has ended, what the input has left, and
-- what the output holds
pub record Place : Type 0 where
  pub cursor : Cursor
  pub state : State
  pub ended : Bool
  pub left : Option (List ℕ)
  pub output : Option (List ℕ)

abbrev pub place :
    Cursor → State → Bool → Option (List ℕ) → Option (List ℕ) → Place
place cursor state ended left output = record {
  cursor = cursor;
  state = state;
  ended = ended;
  left = left;
  output = output;
}

-- a turn in a state that isn't off, with its key
pub record TakesTurn (rules : Rules) (p : Place) (stop : Option Stop) (q : Place) : Type 0 where
  pub is_on : p.state.board.off ≡ false
  pub key : Option ℕ
  pub gives : GivesKey (wants_key rules p.cursor p.state) p.ended p.left key q.ended q.left
  pub turn : Turn rules key p.cursor p.state p.output stop q.cursor q.state q.output

-- in a state that is off nothing is read or written
abbrev pub IsOff : Place → Option Stop → Place → Type 0
IsOff p stop q =
    (p.state.board.off ≡ true) × (stop ≡ Some Off)
    × (q.left ≡ p.left) × (q.output ≡ p.output) × (q.state ≡ p.state)

-- the input fails, and nothing else is changed
abbrev pub FailsToRead : Rules → Place → Fault → Place → Type 0
FailsToRead rules p fault q =
    (fault ≡ Input Failed) × (p.state.board.off ≡ false)
    × (wants_key rules p.cursor p.state ≡ true) × (p.ended ≡ false)
    × Consumes p.left q.left [] × (q.output ≡ p.output)

-- the output fails, once the event is made
pub record FailsToWrite (rules : Rules) (p : Place) (fault : Fault) (q : Place) : Type 0 where
  pub fault_is : fault ≡ Output
  pub is_on : p.state.board.off ≡ false
  pub key : Option ℕ
  pub gives : GivesKey (wants_key rules p.cursor p.state) p.ended p.left key q.ended q.left
  pub makes : Makes rules key p.cursor p.state q.cursor q.state
  pub appends : AppendsSome p.output q.output (sent_since p.state q.state)

-- the result of asking for the next event: it is made, or there is none; or a stream fails
abbrev pub Goes : Rules → Place → Result (Option Stop) Fault → Place → Type 0
Goes rules p (Ok stop) q = IsOff p stop q ⊎ TakesTurn rules p stop q
Goes rules p (Err fault) q = FailsToRead rules p fault q ⊎ FailsToWrite rules p fault q
