use Rattle.std.specs.Prelude.{◌≡◌, ℕ, List, codes, decimal}
use Rattle.m161_cop0.specs.declared.exception.Exception.{Exception}
use Rattle.m161_cop0.specs.Registers.{number_of_exception}
use Rattle.m161_cpu.specs.declared.processor.Outcome.{Outcome}
use Rattle.m161_cpu.specs.declared.processor.Outcome.TheVariants as outcomes
use Rattle.m161_cpu.specs.Step.{AreTwoRows}
use Rattle.m161_machine.specs.declared.event.Event.{Event}
use Rattle.m161_machine.specs.declared.event.Event.TheVariants as events
use Rattle.m161_machine.specs.declared.event.Entry.{Entry}
use Rattle.m161_text.specs.Parts.{◌␣◌, hex_text, IsWord, IsByte}

-- The texts of events, outcomes and entries. Decimals have no leading zeros.

abbrev pub event_text : Event → List ℕ
event_text (events.Step p) = codes "s" ␣ decimal p
event_text (events.Key byte) = codes "k" ␣ hex_text 2 byte
event_text events.Done = codes "o"

-- a trap's code is its number in Cause
abbrev pub code_text : Exception → List ℕ
code_text code = decimal (number_of_exception code)

abbrev pub outcome_text : Outcome → List ℕ
outcome_text outcomes.Ran = codes "ran"
outcome_text (outcomes.Trapped code vector) =
    codes "trap" ␣ code_text code ␣ hex_text 8 vector
outcome_text outcomes.Idle = codes "idle"
outcome_text outcomes.PoweredOff = codes "off"
outcome_text (outcomes.Conflict row other) = codes "conflict" ␣ decimal row ␣ decimal other
outcome_text outcomes.Taken = codes "taken"

-- an entry's line, without its end
abbrev pub entry_text : Entry → List ℕ
entry_text e = event_text e.event ␣ outcome_text e.outcome

-- the numbers in an event fit their types
abbrev pub IsEvent : Event → Type 0
IsEvent (events.Step p) = IsWord p
IsEvent (events.Key byte) = IsByte byte
IsEvent events.Done = Unit {0}

-- an outcome of a Step that a line can say, whatever its vector
abbrev pub IsStepOutcome : Outcome → Type 0
IsStepOutcome outcomes.Ran = Unit {0}
IsStepOutcome (outcomes.Trapped code vector) = IsWord vector
IsStepOutcome outcomes.Idle = Unit {0}
IsStepOutcome outcomes.PoweredOff = Unit {0}
IsStepOutcome (outcomes.Conflict row other) = AreTwoRows row other
IsStepOutcome outcomes.Taken = ⊥

-- an outcome that the event's line can say
abbrev pub IsOutcomeOf : Event → Outcome → Type 0
IsOutcomeOf (events.Step p) o = IsStepOutcome o
IsOutcomeOf (events.Key byte) o = o ≡ outcomes.Taken
IsOutcomeOf events.Done o = o ≡ outcomes.Taken

-- an entry that a log's text can have
pub record IsProper (e : Entry) : Type 0 where
  pub event : IsEvent e.event
  pub outcome : IsOutcomeOf e.event e.outcome
