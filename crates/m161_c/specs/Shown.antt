use Rattle.std.specs.Prelude.{◌≡◌, ℕ, ◌<◌, ◌≤◌, ◌==◌, ◌&&◌, nat_lt, if◌then◌else◌, Bool, true, false, List, length, slice_get, slice_index, slice_index_or, Option, None, Some}
use Rattle.m161_cop0.specs.declared.register.Register.{Register}
use Rattle.m161_cop0.specs.Registers.{register_with}
use Rattle.m161_cpu.specs.Processor.{Processor}
use Rattle.m161_cpu.specs.declared.processor.ProcessorState.{ProcessorState}
use Rattle.m161_cpu.specs.declared.processor.ProcessorState.TheVariants.{Stopped, Running, Waiting}
use Rattle.m161_machine.specs.declared.event.Conflict.{Conflict}
use Rattle.m161_machine.specs.declared.event.Entry.{Entry}
use Rattle.m161_machine.specs.declared.event.Event.{Event}
use Rattle.m161_machine.specs.declared.event.Event.TheVariants.{Step, Key, Done}
use Rattle.m161_machine.specs.History.{History}
use Rattle.m161_machine.specs.State.{State, processor_at}
use Rattle.m161_steplog.specs.declared.mode.Mode.{Mode}
use Rattle.m161_steplog.specs.Log.{log_text, tail_text}
use Rattle.m161_tlb.specs.declared.row.Row.{Row}
use Rattle.m161_tlb.specs.Row.{hi_word, lo_word}
use Rattle.m161_trace.specs.Items.{control_word}
use Rattle.m161_c.specs.declared.answer.Board.{Board}
use Rattle.m161_c.specs.declared.answer.ConflictView.{ConflictView}
use Rattle.m161_c.specs.declared.answer.EntryView.{EntryView}
use Rattle.m161_c.specs.declared.answer.RowWords.{RowWords}
use Rattle.m161_c.specs.declared.answer.ProcessorView.{ProcessorView}
use Rattle.m161_c.specs.declared.answer.OutcomeNumbers.{OutcomeNumbers}
use Rattle.m161_c.specs.Runs.{outcome_numbers}

-- What is shown of a processor.

abbrev pub number_of_state : ProcessorState → ℕ
number_of_state Stopped = 0
number_of_state Running = 1
number_of_state Waiting = 2

pub record Shows (x : Processor) (view : ProcessorView) : Type 0 where
  pub registers : (r : ℕ) → r < 32 → slice_index view.registers r ≡ slice_index x.registers r
  pub hi : view.hi ≡ x.hi
  pub lo : view.lo ≡ x.lo
  pub pc : view.pc ≡ x.pc
  pub state : view.state ≡ number_of_state x.state
  pub slot : view.in_slot ≡ x.slot
  pub count : view.count ≡ x.count

abbrev pub ShowsProcessor : ℕ → State → ProcessorView → Type 0
ShowsProcessor p s shown = Shows (processor_at p s.processors) shown

-- a processor is shown where there is one; else nothing is told
abbrev pub ShowsAnswer : Bool → ℕ → State → ProcessorView → ProcessorView → Type 0
ShowsAnswer true p s before after = (p < length s.processors) × ShowsProcessor p s after
ShowsAnswer false p s before after = (length s.processors ≤ p) × (after ≡ before)

abbrev pub ShowsOf : Option History → ℕ → Bool → ProcessorView → ProcessorView → Type 0
ShowsOf None p answer before after = (answer ≡ false) × (after ≡ before)
ShowsOf (Some m) p answer before after = ShowsAnswer answer p m.state before after

-- a register of coprocessor 0, as `mfc0` reads it, if there is one of this number
abbrev pub control_of : ℕ → State → Option Register → Option ℕ
control_of p s None = None
control_of p s (Some r) = Some (control_word p s r)

abbrev pub cop_of : Option History → ℕ → ℕ → Option ℕ
cop_of None p number = None
cop_of (Some m) p number =
    if nat_lt p (length m.state.processors) && nat_lt number 32
    then control_of p m.state (register_with number)
    else None

-- a row of a TLB
abbrev pub words_of : Option Row → Option RowWords
words_of None = None
words_of (Some row) = Some (record { high = hi_word row; low = lo_word row })

abbrev pub row_of : Option History → ℕ → ℕ → Option RowWords
row_of None p i = None
row_of (Some m) p i =
    if nat_lt p (length m.state.processors) && nat_lt i 64
    then words_of (slice_get (processor_at p m.state.processors).rows i)
    else None

-- what is shown beside processors and RAM
abbrev pub board_with : Bool → Option ℕ → ℕ → ℕ → Board
board_with off None waiting started =
    record { off = off; sending = false; latch = 0; waiting = waiting; started = started }
board_with off (Some byte) waiting started =
    record { off = off; sending = true; latch = byte; waiting = waiting; started = started }

abbrev pub board_of : Option History → Option Board
board_of None = None
board_of (Some m) =
    Some (board_with m.state.board.off m.state.board.console.latch
    (length m.state.board.console.waiting) m.state.board.started)

-- the first byte of the unit that a processor's link is to, if the link is live
abbrev pub link_of : Option History → ℕ → Option ℕ
link_of None p = None
link_of (Some m) p =
    if nat_lt p (length m.state.processors) then slice_index_or m.state.links.live p None else None

-- what switched a strict machine off
abbrev pub conflict_in : Option Conflict → Option ConflictView
conflict_in None = None
conflict_in (Some c) = Some (record { processor = c.processor; row = c.row; other = c.other })

abbrev pub conflict_of : Option History → Option ConflictView
conflict_of None = None
conflict_of (Some m) = conflict_in m.state.conflict

-- the numbers of an event with its outcome
abbrev pub entry_with : Event → OutcomeNumbers → EntryView
entry_with (Step p) outcome = record { kind = 0; value = p; outcome = outcome }
entry_with (Key byte) outcome = record { kind = 1; value = byte; outcome = outcome }
entry_with Done outcome = record { kind = 2; value = 0; outcome = outcome }

abbrev pub entry_in : Option Entry → Option EntryView
entry_in None = None
entry_in (Some e) = Some (entry_with e.event (outcome_numbers e.outcome))

-- how many entries the log has
abbrev pub entries_of : Option History → ℕ
entries_of None = 0
entries_of (Some m) = length m.log

-- an entry of the log; the oldest is the first
abbrev pub entry_of : Option History → ℕ → Option EntryView
entry_of None i = None
entry_of (Some m) i = if nat_lt i (length m.log) then entry_in (slice_get m.log i) else None

-- the text of a machine's log
abbrev pub mode_of : History → Mode
mode_of m = record { link = m.start.conf.link; strict = m.start.conf.strict }

abbrev pub log_of : History → List ℕ
log_of m =
    if m.base.made == 0 then log_text (mode_of m) m.log
    else tail_text (mode_of m) m.base.made m.log
