use Rattle.std.specs.Prelude.{◌≡◌, ◌≢◌, ◌⊎◌, ℕ, ◌+◌, ◌<◌, ◌≤◌, ◌==◌, Bool, true, false, not, nat_lt, nat_le, ◌&&◌, ◌||◌, List, [], ◌∷◌, length, take, slice_get, count_by, is_some, Option, None, Some, Result, Ok, Err}
use Rattle.std.specs.List.{list_any}
use Rattle.m161_cpu.specs.declared.processor.Outcome.{Outcome}
use Rattle.m161_machine.specs.declared.event.Event.{Event}
use Rattle.m161_machine.specs.declared.event.Event.TheVariants.{Step, Key, Done}
use Rattle.m161_machine.specs.declared.event.Refusal.{Refusal}
use Rattle.m161_machine.specs.Fetched.{fetched}
use Rattle.m161_machine.specs.State.{State, next, processor_at}
use Rattle.m161_machine.specs.StoreHistory.{without_stores}
use Rattle.m161_audit.specs.declared.finding.Finding.TheVariants as finding
use Rattle.m161_audit.specs.declared.watch.Watch.{Watch}
use Rattle.m161_audit.specs.Stale.{IsFinding}
use Rattle.m161_drive.specs.Ready.{is_asleep, is_sending}
use Rattle.m161_judge.specs.declared.verdict.Judged.{Judged}
use Rattle.m161_judge.specs.declared.verdict.Verdict.{Verdict}
use Rattle.m161_judge.specs.declared.verdict.Verdict.TheVariants.{Stale, Reached, Conflict, Stuck, Output, End}

-- Whether a run goes wrong. The kinds of verdicts and their order are this project's own.

-- by what a run is judged
pub record Criteria : Type 0 where
  -- the pages whose shootdowns are watched
  pub watches : List Watch
  -- the virtual addresses that no Step is to reach
  pub never : List ℕ
  -- the bytes that the console should have sent at the end, if any are asked for
  pub output : Option (List ℕ)
  -- all bytes that a policy could type
  pub keys : List ℕ

-- what comes after an accepted event
abbrev pub going_on : Result (Outcome × State) Refusal → (State → Option State) → Option State
going_on (Ok given) rest = rest given.1
going_on (Err refusal) rest = None

-- the state after these events, if all of them are accepted
abbrev pub after : State → List Event → Option State
after s [] = Some s
after s (e ∷ es) = going_on (next s e) (λ t. after t es)

-- the first n events are accepted, and lead to this state
abbrev pub LeadsTo : State → List Event → ℕ → State → Type 0
LeadsTo s events n t = (n ≤ length events) × (after s (take n events) ≡ Some t)

-- an event is refused before the machine is off
pub record IsRefused (s : State) (events : List Event) : Type 0 where
  pub place : ℕ
  pub event : Event
  pub event_is : slice_get events place ≡ Some event
  pub state : State
  pub leads : LeadsTo s events place state
  pub is_on : state.board.off ≡ false
  pub refusal : Refusal
  pub refused : next state event ≡ Err refusal

abbrev pub is_key : Event → Bool
is_key (Step p) = false
is_key (Key byte) = true
is_key Done = false

-- these events type fewer keys than there are
abbrev pub has_keys : List ℕ → List Event → Bool
has_keys keys events = nat_lt (count_by is_key events) (length keys)

-- no policy chooses an event, if keys are left or not: the console isn't sending, no key is left or
-- 256 wait, and no processor is ready or ticking
abbrev pub is_stuck : Bool → State → Bool
is_stuck keys_left s =
    not s.board.off && not (is_sending s)
    && (not keys_left || nat_le 256 (length s.board.console.waiting)) && is_asleep s

-- after the first n events no policy with the keys that they leave chooses an event
abbrev pub IsStuckAfter : Criteria → State → List Event → ℕ → State → Type 0
IsStuckAfter goal s events n t =
    LeadsTo s events n t × (is_stuck (has_keys goal.keys (take n events)) t ≡ true)

-- what the console has sent is what is asked for
abbrev pub HasSent : Criteria → State → Type 0
HasSent goal t = goal.output ≡ Some t.board.console.output

-- a run that is stuck is bad, unless it has sent what is asked for
abbrev pub IsStuckBadly : Criteria → State → List Event → ℕ → Type 0
IsStuckBadly goal s events n =
    (t : State) × IsStuckAfter goal s events n t × (HasSent goal t → ⊥)

-- event k is an accepted Step of processor p that fetches a word at one of these addresses
pub record IsReachAt (never : List ℕ) (s : State) (events : List Event) (k p address : ℕ)
    : Type 0 where
  pub event_is : slice_get events k ≡ Some (Step p)
  pub state : State
  pub leads : LeadsTo s events k state
  pub given : Outcome × State
  pub accepted : next state (Step p) ≡ Ok given
  pub fetches : is_some (fetched p state given.0) ≡ true
  pub address_is : address ≡ (processor_at p state.processors).pc
  pub is_among : list_any (λ a. a == address) never ≡ true

-- no event before the place k is one
abbrev pub NoneReachBefore : List ℕ → State → List Event → ℕ → Type 0
NoneReachBefore never s events k =
    (j p address : ℕ) → j < k → IsReachAt never s events j p address → ⊥

-- the verdict holds of a run from s, and needs its first n events: up to the first stale use; up to
-- the first Step that reaches one of the addresses; up to the conflict that switches the machine off; up to where it is stuck badly for the first time; up to
-- the event that switches the machine off, which is the last one to be accepted; or all
abbrev pub Holds : Criteria → State → List Event → Verdict → ℕ → Type 0
Holds goal s events (Stale place p address row) n =
    IsFinding (without_stores s) events goal.watches (finding.Stale place p address row)
    × (n ≡ place + 1)
Holds goal s events (Reached place p address) n =
    IsReachAt goal.never s events place p address × (n ≡ place + 1)
    × NoneReachBefore goal.never s events place
Holds goal s events (Conflict conflict) n =
    (t : State) × LeadsTo s events n t × (t.board.off ≡ true) × (t.conflict ≡ Some conflict)
Holds goal s events Stuck n =
    IsStuckBadly goal s events n × ((k : ℕ) → k < n → IsStuckBadly goal s events k → ⊥)
Holds goal s events Output n =
    (goal.output ≢ None)
    × ((t : State) × LeadsTo s events n t × (t.board.off ≡ true) × (HasSent goal t → ⊥))
Holds goal s events End n =
    (goal.output ≢ None) × (n ≡ length events)
    × ((t : State) × LeadsTo s events n t × (t.board.off ≡ false))
    × ((k : ℕ) (t : State) → IsStuckAfter goal s events k t → ⊥)

-- the order of the kinds
abbrev pub rank : Verdict → ℕ
rank (Stale place p address row) = 0
rank (Reached place p address) = 1
rank (Conflict conflict) = 2
rank Stuck = 3
rank Output = 4
rank End = 5

-- the verdict of a run from s is the first one, in this order, that holds; there is none where an
-- event is refused before the machine is off, or where none holds
abbrev pub IsJudged : Criteria → State → List Event → Option Judged → Type 0
IsJudged goal s events None =
    IsRefused s events ⊎ ((v : Verdict) (n : ℕ) → Holds goal s events v n → ⊥)
IsJudged goal s events (Some judged) =
    (IsRefused s events → ⊥) × Holds goal s events judged.verdict judged.events
    × ((v : Verdict) (n : ℕ) → rank v < rank judged.verdict → Holds goal s events v n → ⊥)
