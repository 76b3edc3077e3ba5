use Rattle.std.specs.Prelude.{◌≡◌, ◌⊎◌, ℕ, ◌+◌, ◌<◌, Bool, true, false, nat_lt, ◌&&◌, is_some, List, length, take, slice_get, Option, None, Some, IsOk, Result, Ok, Err}
use Rattle.m161_cpu.specs.declared.processor.Outcome.{Outcome}
use Rattle.m161_cpu.specs.declared.processor.Outcome.TheVariants as outcomes
use Rattle.m161_machine.specs.declared.event.Entry.{Entry}
use Rattle.m161_machine.specs.declared.event.Event.{Event}
use Rattle.m161_machine.specs.declared.event.Event.TheVariants as events
use Rattle.m161_machine.specs.declared.event.Refusal.{Refusal}
use Rattle.m161_machine.specs.declared.event.Refusal.TheVariants.{NoMemory}
use Rattle.m161_machine.specs.State.{State, processor_at, next}
use Rattle.m161_machine.specs.History.{History, Continues, Leads, events_of}
use Rattle.m161_debug.specs.declared.breakpoints.Breakpoint.{Breakpoint}
use Rattle.m161_debug.specs.declared.stop.StopReason.{StopReason}
use Rattle.m161_debug.specs.declared.stop.StopReason.TheVariants.{Break, Refused, Off, Conflict, Until, End}
use Rattle.m161_debug.specs.Breakpoints.{breakpoint, has}
use Rattle.m161_debug.specs.declared.condition.Condition.{Condition}
use Rattle.m161_debug.specs.Conditions.{holds}

-- Where a run over a list of events stops: at the least place with a reason to.

-- a Step is at a breakpoint: its processor is about to execute the instruction there
abbrev pub is_break : List Breakpoint → State → Event → Bool
is_break bs s (events.Step p) =
    nat_lt p (length s.processors) && has (breakpoint p (processor_at p s.processors).pc) bs
is_break bs s (events.Key byte) = false
is_break bs s events.Done = false

-- the stop after event k with this outcome, if it switched the machine off
abbrev pub off_stop : ℕ → Outcome → Option StopReason
off_stop k outcomes.Ran = None
off_stop k (outcomes.Trapped code vector) = None
off_stop k outcomes.Idle = None
off_stop k outcomes.PoweredOff = Some (Off k)
off_stop k (outcomes.Conflict row other) = Some (Conflict k)
off_stop k outcomes.Taken = None

-- whether what a run waits for holds after an event with this outcome, which led to this state
abbrev pub Awaited : Type 0
Awaited = Event → Outcome → State → Bool

-- of a run that waits for nothing
abbrev pub never : Awaited
never e o t = false

-- the place of a stop: that of its event, or behind all events
abbrev pub place_of : StopReason → ℕ
place_of (Break k) = k
place_of (Refused k refusal) = k
place_of (Off k) = k
place_of (Conflict k) = k
place_of (Until k) = k
place_of (End n) = n

-- the events before place k are accepted, one after the other, and lead from s to t
abbrev pub IsBefore : State → List Event → ℕ → State → Type 0
IsBefore s es k t =
    (entries : List Entry) × (events_of entries ≡ take k es) × Leads s entries t

-- an event at place k is at a breakpoint; none is looked for at place 0
abbrev pub breaks : List Breakpoint → ℕ → State → Event → Bool
breaks bs k s e = nat_lt 0 k && is_break bs s e

-- event k is this one, no breakpoint stops the run before it, and in s it has this result
abbrev pub IsTried :
    List Breakpoint → List Event → ℕ → State → Event → Result (Outcome × State) Refusal → Type 0
IsTried bs es k s e result =
    (slice_get es k ≡ Some e) × (breaks bs k s e ≡ false) × (next s e ≡ result)

-- in s, the state before its place, a run stops so, in t: before a breakpoint; at an event that is
-- refused; after one that switches the machine off; after one that leaves it on, and after which
-- what the run waits for holds; behind the last event
abbrev pub StopsIn : Awaited → List Breakpoint → List Event → State → StopReason → State → Type 0
StopsIn awaited bs es s (Break k) t =
    (e : Event) × (slice_get es k ≡ Some e) × (breaks bs k s e ≡ true) × (t ≡ s)
StopsIn awaited bs es s (Refused k refusal) t =
    (e : Event) × IsTried bs es k s e (Err refusal) × (t ≡ s)
StopsIn awaited bs es s (Off k) t =
    (e : Event) × IsTried bs es k s e (Ok (outcomes.PoweredOff, t))
StopsIn awaited bs es s (Conflict k) t =
    (e : Event) × (row : ℕ) × (other : ℕ)
    × IsTried bs es k s e (Ok (outcomes.Conflict row other, t))
StopsIn awaited bs es s (Until k) t =
    (e : Event) × (o : Outcome) × IsTried bs es k s e (Ok (o, t)) × (off_stop k o ≡ None)
    × (awaited e o t ≡ true)
StopsIn awaited bs es s (End n) t = (n ≡ length es) × (t ≡ s)

-- a run over the events from s has a reason for this stop, in t
abbrev pub HasReason :
    Awaited → List Breakpoint → State → List Event → StopReason → State → Type 0
HasReason awaited bs s es stop t =
    (before : State) × IsBefore s es (place_of stop) before × StopsIn awaited bs es before stop t

-- it has none at a place before this one
abbrev pub NoneBefore : Awaited → List Breakpoint → State → List Event → ℕ → Type 0
NoneBefore awaited bs s es k =
    (stop : StopReason) (t : State) → place_of stop < k → HasReason awaited bs s es stop t → ⊥

-- how many events were made up to a stop: also the one after which it waited no more, and the one
-- that switched the machine off
abbrev pub made_at : StopReason → ℕ
made_at (Break k) = k
made_at (Refused k refusal) = k
made_at (Off k) = k + 1
made_at (Conflict k) = k + 1
made_at (Until k) = k + 1
made_at (End n) = n

-- memory is refused to a Done that would be accepted in t
abbrev pub LacksMemory : List Event → StopReason → State → Type 0
LacksMemory es stop t =
    (k : ℕ) × (stop ≡ Refused k NoMemory) × (slice_get es k ≡ Some events.Done)
    × IsOk (next t events.Done)

-- where a run over these events stops, and the machine at the stop: the events before the stop were
-- made of it, and there is no reason to stop at a place before
pub record StopsBy
    (awaited : Awaited) (bs : List Breakpoint)
    (m : History) (es : List Event) (stop : StopReason) (n : History) : Type 0 where
  pub made : Continues m (take (made_at stop) es) n
  pub is_first : NoneBefore awaited bs m.state es (place_of stop)
  pub reason : HasReason awaited bs m.state es stop n.state ⊎ LacksMemory es stop n.state

-- of a run that waits for nothing
abbrev pub Stops : List Breakpoint → History → List Event → StopReason → History → Type 0
Stops bs m es stop n = StopsBy never bs m es stop n

-- and of one that waits for a condition
abbrev pub StopsUntil :
    Condition → List Breakpoint → History → List Event → StopReason → History → Type 0
StopsUntil condition bs m es stop n = StopsBy (holds condition m.state) bs m es stop n

-- the law: a run has one first reason to stop, and stops in one state
abbrev pub HasOneStop : Type 0
HasOneStop =
    (awaited : Awaited) (bs : List Breakpoint) (s : State) (es : List Event) (stop other : StopReason)
    (t u : State)
    → NoneBefore awaited bs s es (place_of stop) → HasReason awaited bs s es stop t
    → NoneBefore awaited bs s es (place_of other) → HasReason awaited bs s es other u
    → (stop ≡ other) × (t ≡ u)

-- the law: a run that stops at a conflict leaves a state that tells it
abbrev pub TellsConflict : Type 0
TellsConflict =
    (awaited : Awaited) (bs : List Breakpoint) (s : State) (es : List Event) (k : ℕ) (t : State)
    → HasReason awaited bs s es (Conflict k) t → is_some t.conflict ≡ true
