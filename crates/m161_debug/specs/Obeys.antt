use Rattle.std.specs.Prelude.{◌≡◌, ℕ, ◌+◌, ◌*◌, ◌%◌, ◌^◌, ◌==◌, ◌&&◌, not, nat_le, Bool, if◌then◌else◌, is_some, List, [], ◌∷◌, ◌++◌, length, replicate, slice_index, take, Option, None, Some, Result, Ok, Err, codes, decimal}
use Rattle.std.specs.List.{list_all, range_with_len}
use Rattle.std.specs.Option.{option_map}
use Rattle.m161_dis.specs.declared.naming.Style.{Style}
use Rattle.m161_elf.specs.Image.{is_in_ram}
use Rattle.m161_cpu.specs.declared.processor.Outcome.{Outcome}
use Rattle.m161_cpu.specs.Fetch.{fetched_word}
use Rattle.m161_machine.specs.declared.event.Conflict.{Conflict}
use Rattle.m161_machine.specs.declared.event.Event.{Event}
use Rattle.m161_machine.specs.declared.event.Event.TheVariants as events
use Rattle.m161_machine.specs.declared.event.Refusal.{Refusal}
use Rattle.m161_machine.specs.Refusal.{number_of_refusal, name_of_refusal}
use Rattle.m161_machine.specs.State.{State, processor_at}
use Rattle.m161_machine.specs.History.{Answers}
use Rattle.m161_text.specs.Parts.{◌␣◌, word_text}
use Rattle.m161_steplog.specs.Text.{event_text, outcome_text}
use Rattle.m161_debug.specs.declared.breakpoints.BreakError.{BreakError}
use Rattle.m161_debug.specs.declared.breakpoints.BreakError.TheVariants as breaks
use Rattle.m161_debug.specs.declared.command.Area.{Area}
use Rattle.m161_debug.specs.declared.command.Area.TheVariants.{Memory, Code}
use Rattle.m161_debug.specs.declared.command.Change.TheVariants.{Set, Delete}
use Rattle.m161_debug.specs.declared.command.Command.{Command}
use Rattle.m161_debug.specs.declared.command.Command.TheVariants.{At, Breakpoint, Make, Steps, Go, GoFirst, Until, Show, Register, Where, Words, Fetched, Log}
use Rattle.m161_debug.specs.declared.command.CommandError.{CommandError}
use Rattle.m161_debug.specs.declared.command.CommandError.TheVariants.{BadArgument, BadProcessor, TooMany, NoMemory}
use Rattle.m161_debug.specs.declared.command.Display.{Display}
use Rattle.m161_debug.specs.declared.command.Display.TheVariants.{Regs, Cop0, Tlb}
use Rattle.m161_debug.specs.declared.condition.Condition.{Condition}
use Rattle.m161_debug.specs.declared.stop.StopReason.{StopReason}
use Rattle.m161_debug.specs.declared.stop.StopReason.TheVariants.{Break, Refused, Off, Conflict as ConflictAt, Until as UntilAt, End}
use Rattle.m161_debug.specs.Breakpoints.{SessionState, breakpoint, break_fault, has, with_breakpoint, without_breakpoint}
use Rattle.m161_debug.specs.Conditions.{has_processor, is_of_kind, physical_of}
use Rattle.m161_debug.specs.Stops.{Stops, StopsUntil}
use Rattle.m161_display.specs.Shows.{show_regs_text, show_cop0_text, show_tlb_text, show_mem_text, show_code_text, show_fetched_text, show_where_text}
use Rattle.m161_debug.specs.Shows.{show_log_text}
use Rattle.m161_text.specs.Lines.{with_line_end}
use Rattle.m161_debug.specs.Commands.{IsAsked}

-- The effects of commands.

-- the fault of a breakpoint, as an error of a command
abbrev pub error_of_break : BreakError → CommandError
error_of_break breaks.BadProcessor = BadProcessor
error_of_break breaks.TooMany = TooMany

-- so many words can be shown, from such an address on
abbrev pub is_span : ℕ → ℕ → Bool
is_span address n = nat_le 1 n && nat_le n 1024 && (address % 4 == 0)

-- the words are in RAM: those of code by an address in kseg0 or kseg1, those of memory by one of
-- these or by a physical one
abbrev pub is_there : Area → State → ℕ → ℕ → Bool
is_there Memory s address n = nat_le (physical_of address + 4 * n) (length s.memory)
is_there Code s address n = is_in_ram (length s.memory) address (4 * n)

abbrev pub is_shown : Area → State → ℕ → ℕ → Bool
is_shown area s address n = is_span address n && is_there area s address n

-- processor p would fetch a word at each of n places from an address on; none is past ffffffff
abbrev pub is_fetched : ℕ → ℕ → ℕ → State → Bool
is_fetched p address n s =
    nat_le (address + 4 * n) (2 ^ 32)
    && list_all
    (λ i. is_some (fetched_word s.memory (address + 4 * i) (processor_at p s.processors)))
    (range_with_len 0 n)

-- the fault of what a run waits for
abbrev pub condition_fault : Condition → State → Option CommandError
condition_fault condition s =
    if not (is_of_kind condition s) then Some BadArgument
    else if not (has_processor condition s) then Some BadProcessor else None

-- the fault of a display of instructions as processor p would fetch them
abbrev pub fetch_fault : ℕ → ℕ → ℕ → State → Option CommandError
fetch_fault p address n s =
    if not (is_span address n) then Some BadArgument
    else if nat_le (length s.processors) p then Some BadProcessor
    else if is_fetched p address n s then None else Some BadArgument

-- the fault of a display of register r of processor p
abbrev pub register_fault : ℕ → ℕ → State → Option CommandError
register_fault p r s =
    if nat_le 32 r then Some BadArgument
    else if nat_le (length s.processors) p then Some BadProcessor else None

-- the fault of a command
abbrev pub fault_of : SessionState → Command → Option CommandError
fault_of s (Breakpoint Set p address) =
    option_map error_of_break (break_fault (breakpoint p address) s)
fault_of s (Breakpoint Delete p address) = None
fault_of s (Make event) = None
fault_of s (Steps p n) = if nat_le 1 n && nat_le n 1000000 then None else Some BadArgument
fault_of s Go = None
fault_of s (GoFirst n) = None
fault_of s (Until condition) = condition_fault condition s.machine.state
fault_of s (Show display p) =
    if nat_le (length s.machine.state.processors) p then Some BadProcessor else None
fault_of s (Register p r) = register_fault p r s.machine.state
fault_of s Where = None
fault_of s (Words area address n) =
    if is_shown area s.machine.state address n then None else Some BadArgument
fault_of s (Fetched address n p) = fetch_fault p address n s.machine.state
fault_of s (Log n) = if nat_le 1 n && nat_le n 1024 then None else Some BadArgument
fault_of s At = None

abbrev pub refused_text : Refusal → List ℕ
refused_text r = decimal (number_of_refusal r) ␣ name_of_refusal r

-- an event with its outcome, as a log has it, or why it is refused
abbrev pub answer_text : Event → Result Outcome Refusal → List ℕ
answer_text event (Ok outcome) = event_text event ␣ outcome_text outcome
answer_text event (Err refusal) = codes "refused" ␣ refused_text refusal

-- the processor of a conflict, its row, and the other one, each behind a space; of none nothing
abbrev pub conflict_text : Option Conflict → List ℕ
conflict_text None = []
conflict_text (Some c) = 32 ∷ (decimal c.processor ␣ decimal c.row ␣ decimal c.other)

-- a stop, with the conflict that the machine tells then
abbrev pub stop_text : StopReason → Option Conflict → List ℕ
stop_text (Break k) told = codes "break" ␣ decimal k
stop_text (Refused k refusal) told = codes "refused" ␣ decimal k ␣ refused_text refusal
stop_text (Off k) told = codes "off" ␣ decimal k
stop_text (ConflictAt k) told = (codes "conflict" ␣ decimal k) ++ conflict_text told
stop_text (UntilAt k) told = codes "until" ␣ decimal k
stop_text (End n) told = codes "end" ␣ decimal n

-- how many events a stop uses up, including a refused event, and the last one that was made
abbrev pub used_by : StopReason → ℕ
used_by (Break k) = k
used_by (Refused k refusal) = k + 1
used_by (Off k) = k + 1
used_by (ConflictAt k) = k + 1
used_by (UntilAt k) = k + 1
used_by (End n) = n

abbrev pub display_text : Display → ℕ → State → List ℕ
display_text Regs p s = show_regs_text p s
display_text Cop0 p s = show_cop0_text p s
display_text Tlb p s = show_tlb_text p s

-- a general register
abbrev pub register_text : ℕ → ℕ → State → List ℕ
register_text p r s =
    (codes "r" ++ decimal r) ␣ word_text (slice_index (processor_at p s.processors).registers r)

-- the place of a run: how many events were accepted since boot, and how many it has with the remaining ones
abbrev pub at_text : ℕ → List Event → List ℕ
at_text made rest = codes "at" ␣ decimal made ␣ codes "of" ␣ decimal (made + length rest)

abbrev pub area_text : Style → Area → ℕ → ℕ → State → List ℕ
area_text style Memory address n s = show_mem_text (physical_of address) n s
area_text style Code address n s = show_code_text style address n s

-- a run over these events
pub record Goes
    (s : SessionState) (events : List Event) (used : ℕ) (t : SessionState) (printed : List ℕ)
    : Type 0 where
  pub stop : StopReason
  pub stops : Stops s.breakpoints s.machine events stop t.machine
  pub breakpoints : t.breakpoints ≡ s.breakpoints
  pub style : t.style ≡ s.style
  pub used_is : used ≡ used_by stop
  pub printed_is : printed ≡ with_line_end (stop_text stop t.machine.state.conflict)

-- a run over them that waits for a condition
pub record Awaits
    (condition : Condition) (s : SessionState) (events : List Event) (used : ℕ) (t : SessionState)
    (printed : List ℕ)
    : Type 0 where
  pub stop : StopReason
  pub stops : StopsUntil condition s.breakpoints s.machine events stop t.machine
  pub breakpoints : t.breakpoints ≡ s.breakpoints
  pub style : t.style ≡ s.style
  pub used_is : used ≡ used_by stop
  pub printed_is : printed ≡ with_line_end (stop_text stop t.machine.state.conflict)

-- an event is made
pub record MakesEvent
    (s : SessionState) (event : Event) (t : SessionState) (printed : List ℕ) : Type 0 where
  pub answer : Result Outcome Refusal
  pub answers : Answers s.machine event answer t.machine
  pub breakpoints : t.breakpoints ≡ s.breakpoints
  pub style : t.style ≡ s.style
  pub printed_is : printed ≡ with_line_end (answer_text event answer)

-- the effect of a command: the session after it, how many of the remaining events it uses up, and
-- what it prints
abbrev pub HasEffect : Command → SessionState → List Event → ℕ → SessionState → List ℕ → Type 0
HasEffect (Breakpoint Set p address) s rest used t printed =
    (used ≡ 0)
    × (t ≡ record s { breakpoints = with_breakpoint (breakpoint p address) s.breakpoints })
    × (printed ≡ with_line_end (codes "break" ␣ decimal p ␣ word_text address))
HasEffect (Breakpoint Delete p address) s rest used t printed =
    (used ≡ 0)
    × (t ≡ record s { breakpoints = without_breakpoint (breakpoint p address) s.breakpoints })
    × (printed ≡ with_line_end
    (if has (breakpoint p address) s.breakpoints then codes "deleted" else codes "none"))
HasEffect (Make event) s rest used t printed = (used ≡ 0) × MakesEvent s event t printed
HasEffect (Steps p n) s rest used t printed =
    (used ≡ 0)
    × ((made : ℕ) × Goes s (replicate n (events.Step p)) made t printed)
HasEffect Go s rest used t printed = Goes s rest used t printed
HasEffect (GoFirst n) s rest used t printed = Goes s (take n rest) used t printed
HasEffect (Until condition) s rest used t printed = Awaits condition s rest used t printed
HasEffect (Show display p) s rest used t printed =
    (used ≡ 0) × (t ≡ s) × (printed ≡ display_text display p s.machine.state)
HasEffect (Register p r) s rest used t printed =
    (used ≡ 0) × (t ≡ s) × (printed ≡ with_line_end (register_text p r s.machine.state))
HasEffect Where s rest used t printed =
    (used ≡ 0) × (t ≡ s) × (printed ≡ show_where_text s.style s.machine.state)
HasEffect (Words area address n) s rest used t printed =
    (used ≡ 0) × (t ≡ s) × (printed ≡ area_text s.style area address n s.machine.state)
HasEffect (Fetched address n p) s rest used t printed =
    (used ≡ 0) × (t ≡ s) × (printed ≡ show_fetched_text s.style p address n s.machine.state)
HasEffect (Log n) s rest used t printed =
    (used ≡ 0) × (t ≡ s) × (printed ≡ show_log_text n s.machine.log)
HasEffect At s rest used t printed =
    (used ≡ 0) × (t ≡ s) × (printed ≡ with_line_end (at_text s.machine.state.made rest))

-- the error is returned, and nothing is changed
abbrev pub FailsWith :
    CommandError → Result ℕ CommandError → SessionState → SessionState → List ℕ → List ℕ → Type 0
FailsWith e result s t before after = (result ≡ Err e) × (t ≡ s) × (after ≡ before)

-- the result of a command, by its fault: that; or without one it is done, and its text is appended;
-- or memory was refused
abbrev pub HasEffectUnless :
    Option CommandError → Command → SessionState → List Event → Result ℕ CommandError →
    SessionState → List ℕ → List ℕ → Type 0
HasEffectUnless (Some fault) command s rest result t before after =
    FailsWith fault result s t before after
HasEffectUnless None command s rest (Ok used) t before after =
    (printed : List ℕ) × (after ≡ before ++ printed) × HasEffect command s rest used t printed
HasEffectUnless None command s rest (Err e) t before after =
    FailsWith NoMemory (Err e) s t before after

abbrev pub Obeys :
    Result Command CommandError → SessionState → List Event → Result ℕ CommandError → SessionState →
    List ℕ → List ℕ → Type 0
Obeys (Ok command) s rest result t before after =
    HasEffectUnless (fault_of s command) command s rest result t before after
Obeys (Err e) s rest result t before after = FailsWith e result s t before after

-- the result of a line, and the session after it: what the line asks for is done
abbrev pub Commands :
    List ℕ → SessionState → List Event → Result ℕ CommandError → SessionState → List ℕ → List ℕ →
    Type 0
Commands line s rest result t before after =
    (asked : Result Command CommandError) × IsAsked s.style.symbols line asked
    × Obeys asked s rest result t before after
