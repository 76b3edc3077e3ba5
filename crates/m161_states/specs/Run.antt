use Rattle.std.specs.Prelude.{◌≡◌, ◌↔◌, ℕ, true, false, List, [], ◌∷◌, ◌++◌, count_by, map, Option, None, Some, Result, Ok, Err}
use Rattle.m161_cpu.specs.declared.processor.Outcome.{Outcome}
use Rattle.m161_cpu.specs.declared.uses.Via.{Via}
use Rattle.m161_cpu.specs.Scene.{result_map}
use Rattle.m161_machine.specs.declared.event.Event.{Event}
use Rattle.m161_machine.specs.declared.event.Refusal.{Refusal}
use Rattle.m161_machine.specs.History.{boot_state}
use Rattle.m161_machine.specs.State.{State, is_worn, next as result_of}
use Rattle.m161_machine.specs.StoreHistory.{StoreState, live_state, without_stores}
use Rattle.m161_audit.specs.declared.watch.Watch.{Watch}
use Rattle.m161_audit.specs.Stale.{HasGoneOn, UsesStale, after_event, after_events}
use Rattle.m161_judge.specs.Verdict.{is_key}
use Rattle.m161_states.specs.declared.verdict.EventVerdict.TheVariants.{Stale}
use Rattle.m161_states.specs.Question.{Question, booted}
use Rattle.m161_states.specs.System.{Explored, Flags, agreed_after, agreed_at_boot, event_of, flags_after, fresh, next, no_flags, start}
use Rattle.m161_states.specs.Verdicts.{has_sent, stale_use}

-- What a state of the exploration says of the run that leads to it: the run of the audit, which has
-- the list of all stores.

-- what is kept of a watch after these stores, the oldest first
abbrev pub flags_from : Watch → Flags → List ℕ → Flags
flags_from w f [] = f
flags_from w f (word ∷ words) = flags_from w (flags_after word w f) words

abbrev pub flags_of : List ℕ → Watch → Flags
flags_of stores w = flags_from w (no_flags w) stores

-- how far an output agrees
abbrev pub agreed_of : Option (List ℕ) → List ℕ → Option ℕ
agreed_of output sent = agreed_after output sent (agreed_at_boot output)

-- what a state of the exploration is, behind these events from boot on, which lead to this state of
-- the machine with its stores
pub record IsBehind (q : Question) (events : List Event) (s : StoreState) (x : Explored) : Type 0 where
  pub run : s ≡ after_events (without_stores (boot_state (booted q))) events
  pub state : fresh x.state ≡ fresh (live_state s)
  pub typed : x.typed ≡ count_by is_key events
  pub flags : x.flags ≡ map (flags_of s.stores) q.goal.watches
  pub agreed : x.agreed ≡ agreed_of q.goal.output s.board.console.output

-- the laws

-- an answer, with the state behind the event as before any event
abbrev pub freshened : Result (Outcome × State) Refusal → Result (Outcome × State) Refusal
freshened r = result_map (λ (a : Outcome × State). (a.0, fresh a.1)) r

-- the number of events before an event is of no account, unless the machine is worn
abbrev pub FreshIsSame : Type 0
FreshIsSame =
    (s : State) (e : Event) → is_worn s.made ≡ false
    → freshened (result_of (fresh s) e) ≡ freshened (result_of s e)

-- no event is made yet
abbrev pub StartIsBoot : Type 0
StartIsBoot = (q : Question) → IsBehind q [] (without_stores (boot_state (booted q))) (start q)

-- by the machine's answer: the event is refused by both, or accepted by both
abbrev pub GoesOn :
    Question → List Event → StoreState → Event → Option Explored → Result (Outcome × State) Refusal
    → Type 0
GoesOn q events s e found (Err refusal) = found ≡ None
GoesOn q events s e found (Ok given) =
    (y : Explored) × (found ≡ Some y) × IsBehind q (events ++ e ∷ []) (after_event s e) y

-- one event more, unless the machine has accepted all that it counts
abbrev pub NextIsEvent : Type 0
NextIsEvent =
    (q : Question) (events : List Event) (s : StoreState) (x : Explored) (n : ℕ) (e : Event)
    → IsBehind q events s x → is_worn s.made ≡ false → event_of q x n ≡ Some e
    → GoesOn q events s e (next q x n) (result_of (live_state s) e)

-- the flag says whether the initiator has gone on
abbrev pub FlagTells : Type 0
FlagTells = (w : Watch) (stores : List ℕ) → ((flags_of stores w).gone_on ≡ true) ↔ HasGoneOn w stores

-- a use is stale exactly where the audit says so
pub record IsAudited (q : Question) (s : StoreState) (x : Explored) (p : ℕ) : Type 0 where
  pub found :
      (v : Via) → UsesStale s q.goal.watches p v
      → stale_use q.goal x p ≡ Some (Stale p v.address v.row)
  pub none :
      ((v : Via) → UsesStale s q.goal.watches p v → ⊥) → stale_use q.goal x p ≡ None

abbrev pub StaleIsAudited : Type 0
StaleIsAudited =
    (q : Question) (events : List Event) (s : StoreState) (x : Explored) (p : ℕ)
    → IsBehind q events s x → IsAudited q s x p

-- the number of bytes says whether the output is the one that is asked for
abbrev pub AgreedTells : Type 0
AgreedTells =
    (output : Option (List ℕ)) (sent : List ℕ)
    → (has_sent output (agreed_of output sent) ≡ true) ↔ (output ≡ Some sent)
