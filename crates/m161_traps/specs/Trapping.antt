use Rattle.std.specs.Prelude.{ℕ, ◌-◌, Bool, true, false, if◌then◌else◌, List, [], ◌∷◌, filter, flat_map, length, map, Option, option_map, slice_get}
use Rattle.std.specs.List.{list_all}
use Rattle.m161_cop0.specs.declared.exception.Exception.{Exception}
use Rattle.m161_cpu.specs.declared.processor.Outcome.{Outcome}
use Rattle.m161_cpu.specs.declared.processor.Outcome.TheVariants.{Ran, Trapped, Idle, PoweredOff, Conflict, Taken}
use Rattle.m161_machine.specs.declared.event.Entry.{Entry}
use Rattle.m161_machine.specs.History.{is_step_of}
use Rattle.m161_traps.specs.declared.trapping.Trapping.{Trapping}

-- A processor whose last Steps all trapped.

-- a Step with this outcome trapped
abbrev pub is_trap : Outcome → Bool
is_trap Ran = false
is_trap (Trapped code vector) = true
is_trap Idle = false
is_trap PoweredOff = false
is_trap (Conflict row other) = false
is_trap Taken = false

-- the code of a trap
abbrev pub codes_of : Outcome → List Exception
codes_of Ran = []
codes_of (Trapped code vector) = code ∷ []
codes_of Idle = []
codes_of PoweredOff = []
codes_of (Conflict row other) = []
codes_of Taken = []

-- the outcomes of a processor's Steps among these entries
abbrev pub outcomes_of : ℕ → List Entry → List Outcome
outcomes_of p entries =
    map (λ (e : Entry). e.outcome) (filter (λ (e : Entry). is_step_of p e.event) entries)

-- the longest end of a list of outcomes in which each is a trap's
abbrev pub last_traps : List Outcome → List Outcome
last_traps [] = []
last_traps (o ∷ os) = if list_all is_trap (o ∷ os) then o ∷ os else last_traps os

-- how many codes these are, and the last one
abbrev pub counted : List Exception → Option Trapping
counted codes =
    option_map (λ code. record { code = code; count = length codes })
    (slice_get codes (length codes - 1))

-- how many last Steps of a processor trapped among these entries, none before which didn't, and the
-- last one's code; None where its last Step didn't trap, or it made none
abbrev pub last_trapping : ℕ → List Entry → Option Trapping
last_trapping p entries = counted (flat_map codes_of (last_traps (outcomes_of p entries)))
