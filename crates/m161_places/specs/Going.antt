use Rattle.std.specs.Prelude.{◌≡◌, ℕ, ◌+◌, ◌≤◌, if◌then◌else◌, List, [], ◌∷◌, ◌++◌, length, Option, None, Some}
use Rattle.m161_machine.specs.declared.event.Entry.{Entry}
use Rattle.m161_machine.specs.declared.event.Event.{Event}
use Rattle.m161_machine.specs.History.{events_of}
use Rattle.m161_machine.specs.State.{State}
use Rattle.m161_order.specs.Delays.{behind}
use Rattle.m161_drive.specs.declared.cursor.Cursor.{Cursor}
use Rattle.m161_drive.specs.declared.turns.Turns.{Turns}
use Rattle.m161_drive.specs.Drive.{Chooses, Goes}
use Rattle.m161_drive.specs.Policy.{Rules}
use Rattle.m161_delays.specs.Lists.{AgreeBelow}
use Rattle.m161_places.specs.Laws.{with_delays}
use Rattle.m161_places.specs.Places.{is_place}

-- Going on along the run of a list of delays.

-- how many places there are at an event of a state: one, or none
abbrev pub place_number : Event → State → ℕ
place_number e s = if is_place (Some e) s then 1 else 0

-- from a cursor and a state on, these are the entries of the events that the policy chooses; they
-- lead to another cursor and state, and so many of them are at places
abbrev pub Passes :
    Rules → (ℕ → Option ℕ) → Cursor → State → List Entry → Cursor → State → ℕ → Type 0
Passes rules keys c s [] d t k = (d ≡ c) × (t ≡ s) × (k ≡ 0)
Passes rules keys c s (e ∷ es) d t k =
    (b : Cursor) × (u : State) × (j : ℕ) × Goes rules (keys c.typed) c s e b u × Passes rules keys b u es d t j
    × (k ≡ place_number e.event s + j)

-- at most n events were chosen and made, passed at most so many places, and are noted behind others
abbrev pub PassesNoting :
    Rules → (ℕ → Option ℕ) → ℕ → ℕ → Cursor → State → List Event → ℕ → Cursor → State → List Event → Type 0
PassesNoting rules keys n most c s old passed d t new =
    (es : List Entry) × Passes rules keys c s es d t passed × (length es ≤ n) × (passed ≤ most) × (new ≡ old ++ events_of es)

-- the law of going on: events of the run of a list that pass so many places are those of each list that
-- agrees with it below that number; the delays that are left are then its own
abbrev pub GoAlike : Rules → (ℕ → Option ℕ) → Turns → Cursor → State → Type 0
GoAlike rules keys turns c s =
    (a b : List ℕ) (es : List Entry) (d : Cursor) (t : State) (k : ℕ) → AgreeBelow k a b →
    Passes rules keys (with_delays turns a c) s es d t k →
    (end : Turns) × (x : Cursor) × (d ≡ with_delays end (behind k a) x)
    × Chooses rules keys (with_delays turns b c) s es (with_delays end (behind k b) x) t
