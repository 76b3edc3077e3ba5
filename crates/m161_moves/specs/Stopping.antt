use Rattle.std.specs.Prelude.{ℕ, ◌+◌, ◌^◌, nat_lt, ◌==◌, ◌&&◌, Bool, true, false, not, if◌then◌else◌, List, [], ◌∷◌, Option, None, Some, is_some, slice_get, option_and_then, option_map, option_to_list}
use Rattle.m161_gdb.specs.declared.packet.Kind.{Kind}
use Rattle.m161_gdb.specs.declared.packet.Kind.TheVariants as kinds
use Rattle.m161_gdb.specs.declared.packet.Motion.{Motion}
use Rattle.m161_gdb.specs.declared.packet.Motion.TheVariants as motions
use Rattle.m161_gdb.specs.declared.stops.Breakpoint.{Breakpoint}
use Rattle.m161_gdb.specs.declared.stops.Watch.{Watch}
use Rattle.m161_gdb.specs.Stops.{StopsValue, has_breakpoint}
use Rattle.m161_moves.specs.declared.run.Access.{Access}
use Rattle.m161_moves.specs.declared.run.StepSeen.{StepSeen}
use Rattle.m161_moves.specs.declared.reason.Reason.{Reason}
use Rattle.m161_moves.specs.declared.reason.Reason.TheVariants as reasons

-- What stops at one event.

-- the first that is there
abbrev pub first_of : {X : Type 0} → List (Option X) → Option X
first_of [] = None
first_of (None ∷ others) = first_of others
first_of (Some x ∷ others) = Some x

abbrev pub when : {X : Type 0} → Bool → Option X → Option X
when b x = if b then x else None

-- Processors. Each has an entry of the motions: nothing where it isn't resumed.

abbrev pub motion_of : List (Option Motion) → ℕ → Option Motion
motion_of chosen p = option_and_then (λ motion. motion) (slice_get chosen p)

abbrev pub is_resumed : List (Option Motion) → ℕ → Bool
is_resumed chosen p = is_some (motion_of chosen p)

abbrev pub is_step : Option Motion → Bool
is_step None = false
is_step (Some motions.Continue) = false
is_step (Some motions.Step) = true

abbrev pub is_stepping : List (Option Motion) → ℕ → Bool
is_stepping chosen p = is_step (motion_of chosen p)

-- an event is a Step of a stepping processor
abbrev pub step_of : List (Option Motion) → Option StepSeen → Option Reason
step_of chosen None = None
step_of chosen (Some step) = when (is_stepping chosen step.processor) (Some (reasons.Step step.processor))

-- Breakpoints.

-- the kind of the breakpoint at an address; one in software counts before one in hardware
abbrev pub kind_at : List Breakpoint → ℕ → Option Kind
kind_at set address =
    first_of (when (has_breakpoint set kinds.Software address) (Some kinds.Software)
    ∷ when (has_breakpoint set kinds.Hardware address) (Some kinds.Hardware)
    ∷ [])

abbrev pub break_at : List Breakpoint → ℕ → Option ℕ → Option Reason
break_at set p None = None
break_at set p (Some address) = option_map (λ kind. reasons.Break p address kind) (kind_at set address)

-- an event breaks: it is a Step of a resumed processor that fetches a word with a breakpoint
abbrev pub break_of : StopsValue → List (Option Motion) → Option StepSeen → Option Reason
break_of stops chosen None = None
break_of stops chosen (Some step) =
    when (is_resumed chosen step.processor) (break_at stops.breakpoints step.processor step.fetched)

-- Watches.

-- whether a watch of a kind looks at stores, or else at loads
abbrev pub looks_at : Kind → Bool → Bool
looks_at kinds.Software is_store = false
looks_at kinds.Hardware is_store = false
looks_at kinds.Write is_store = is_store
looks_at kinds.Read is_store = not is_store
looks_at kinds.Access is_store = true

-- whether the word at an address is among those that a watch's bytes lie in
abbrev pub lies_in : Watch → ℕ → Bool
lies_in watch word = nat_lt watch.address (word + 4) && nat_lt word (watch.address + watch.size)

abbrev pub lies_in_any : Watch → List ℕ → Bool
lies_in_any watch [] = false
lies_in_any watch (word ∷ words) = if lies_in watch word then true else lies_in_any watch words

-- the addresses of an access's word: in kseg0, in kseg1, and the one that a row translated
abbrev pub addresses_of : Access → List ℕ
addresses_of access = (2 ^ 31 + access.word) ∷ (2 ^ 31 + 2 ^ 29 + access.word) ∷ option_to_list access.mapped

abbrev pub is_touched : Access → Watch → Bool
is_touched access watch = looks_at watch.kind access.is_store && lies_in_any watch (addresses_of access)

-- the first of these watches, which is the oldest, that an access touches
abbrev pub first_touched : List Watch → Access → Option Watch
first_touched [] access = None
first_touched (watch ∷ watches) access =
    if is_touched access watch then Some watch else first_touched watches access

abbrev pub touch_at : List Watch → ℕ → Option Access → Option Reason
touch_at set p None = None
touch_at set p (Some access) = option_map (λ watch. reasons.Touch p watch) (first_touched set access)

-- an event touches a watch: it is a Step of a resumed processor that makes such an access
abbrev pub touch_of : StopsValue → List (Option Motion) → Option StepSeen → Option Reason
touch_of stops chosen None = None
touch_of stops chosen (Some step) =
    when (is_resumed chosen step.processor) (touch_at stops.watches step.processor step.access)

-- The mark.

abbrev pub is_at : Option ℕ → ℕ → Bool
is_at None place = false
is_at (Some mark) place = mark == place

abbrev pub mark_of : StopsValue → ℕ → Option Reason
mark_of stops place = when (is_at stops.mark place) (Some reasons.Mark)
