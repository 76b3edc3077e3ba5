use Rattle.std.specs.Prelude.{◌≡◌, ◌⊎◌, ℕ, ◌<◌, ◌≤◌, Bool, true, ◌||◌, List, ◌++◌, length, take, None, Some}
use Rattle.m161_machine.specs.declared.event.Event.{Event}
use Rattle.m161_machine.specs.History.{boot_state}
use Rattle.m161_machine.specs.State.{State}
use Rattle.m161_judge.specs.Verdict.{after}
use Rattle.m161_explore.specs.Lists.{IsHung, Leads}
use Rattle.m161_states.specs.Question.{Question, booted}
use Rattle.m161_states.specs.System.{Explored, start}
use Rattle.m161_states.specs.Verdicts.{is_end, is_stuck_in}
use Rattle.m161_reach.specs.From.{IsFreeFrom, IsHungFrom}
use Rattle.m161_reach.specs.Named.{numbers_of}
use Rattle.m161_reach.specs.Reach.{rules_of}

-- Lists of events that hang.

-- a list from boot is accepted, and the state behind it hangs
abbrev pub IsHungAt : Question → ℕ → List ℕ → Type 0
IsHungAt q limit events =
    (x : Explored) × Leads (rules_of q) (start q) events x × IsHungFrom q limit x

-- it is accepted, and the state behind it doesn't hang
abbrev pub IsFreeAt : Question → ℕ → List ℕ → Type 0
IsFreeAt q limit events =
    (x : Explored) × Leads (rules_of q) (start q) events x × IsFreeFrom q limit x

-- the machine is off, or nothing is left to do, whatever it has sent
abbrev pub is_over : Question → Explored → Bool
is_over q x = x.state.board.off || is_stuck_in q.goal x

-- it is so behind the first n events of a list
abbrev pub IsOverAt : Question → List ℕ → ℕ → Type 0
IsOverAt q events n =
    (n ≤ length events)
    × ((x : Explored) × Leads (rules_of q) (start q) (take n events) x × (is_over q x ≡ true))

-- a list is accepted, and the machine is over behind none of its events
pub record GoesAlong (q : Question) (events : List ℕ) : Type 0 where
  pub accepted : (x : Explored) × Leads (rules_of q) (start q) events x
  pub goes_on : (k : ℕ) → IsOverAt q events k → ⊥

-- a list isn't accepted, or the machine is over behind some of its events
abbrev pub EndsEarly : Question → List ℕ → Type 0
EndsEarly q events =
    ((x : Explored) → Leads (rules_of q) (start q) events x → ⊥) ⊎ ((n : ℕ) × IsOverAt q events n)

-- the first n events of a list are the least that hang
pub record IsLeastHang (q : Question) (limit : ℕ) (events : List ℕ) (n : ℕ) : Type 0 where
  pub within : n ≤ length events
  pub hangs : IsHungAt q limit (take n events)
  pub first : (k : ℕ) → k < n → IsFreeAt q limit (take k events)

-- so, of a list along which the machine is never over
abbrev pub IsFirstHang : Question → ℕ → List ℕ → ℕ → Type 0
IsFirstHang q limit events n = GoesAlong q events × IsLeastHang q limit events n

-- a list ends early, or the state behind all of its events doesn't hang
abbrev pub HangsNowhere : Question → ℕ → List ℕ → Type 0
HangsNowhere q limit events = EndsEarly q events ⊎ IsFreeAt q limit events

-- the same of events: they are those of a list, of which the first n are the least that hang
abbrev pub HangFirst : Question → ℕ → List Event → ℕ → Type 0
HangFirst q limit events n =
    (numbers : List ℕ) × (numbers_of q events ≡ Some numbers) × IsFirstHang q limit numbers n

-- they are those of no list, or of one that ends early, or of one that doesn't hang
abbrev pub NeverHang : Question → ℕ → List Event → Type 0
NeverHang q limit events =
    (numbers_of q events ≡ None)
    ⊎ ((numbers : List ℕ) × (numbers_of q events ≡ Some numbers) × HangsNowhere q limit numbers)

-- the laws

-- a list that hangs is one that no events continue to an end, as an exploration from boot on says it
abbrev pub HungIsHung : Type 0
HungIsHung = (q : Question) (limit : ℕ) (events : List ℕ) → IsHungAt q limit events → IsHung (rules_of q) events

-- no list that goes on with one that hangs is at an end
abbrev pub HungNeverEnds : Type 0
HungNeverEnds =
    (q : Question) (limit : ℕ) (events more : List ℕ) (x : Explored) → IsHungAt q limit events
    → Leads (rules_of q) (start q) (events ++ more) x → is_end q x ≡ true → ⊥

-- where a list doesn't hang, none of its first parts does
abbrev pub FreeBefore : Type 0
FreeBefore =
    (q : Question) (limit : ℕ) (events more : List ℕ) → IsFreeAt q limit (events ++ more)
    → IsFreeAt q limit events

-- events of which some hang are all accepted, from boot on
abbrev pub HangingAreMade : Type 0
HangingAreMade =
    (q : Question) (limit : ℕ) (events : List Event) (n : ℕ) → HangFirst q limit events n
    → (s : State) × (after (boot_state (booted q)) events ≡ Some s)

-- cut behind the first of them that hang, they hang in the same way
abbrev pub CutKeepsHang : Type 0
CutKeepsHang =
    (q : Question) (limit : ℕ) (events : List Event) (n : ℕ) → HangFirst q limit events n
    → (n ≤ length events) × HangFirst q limit (take n events) n
