use Rattle.std.specs.Prelude.{◌≡◌, ℕ, ◌+◌, ◌≤◌, ◌%◌, Bool, not, nat_le, ◌==◌, ◌&&◌, if◌then◌else◌, List, [], ◌∷◌, length, map, slice_index_or, slice_set, Option, None, Some, Result, Ok, Err, All}
use Rattle.m161_ram.specs.Word.{word_at}
use Rattle.m161_tlb.specs.Rows.{AreApart}
use Rattle.m161_bus.specs.declared.console.DoneError.{DoneError}
use Rattle.m161_bus.specs.declared.console.DoneError.TheVariants as done
use Rattle.m161_bus.specs.declared.console.KeyFull.{KeyFull}
use Rattle.m161_bus.specs.Board.{BoardState, board_key, board_done, start_words}
use Rattle.m161_isa.specs.Bits.{has_bit}
use Rattle.m161_cpu.specs.declared.processor.Outcome.{Outcome}
use Rattle.m161_cpu.specs.declared.processor.Outcome.TheVariants.{Ran, Trapped, Idle, PoweredOff, Conflict as ConflictOutcome, Taken}
use Rattle.m161_cpu.specs.Links.{LinkState}
use Rattle.m161_cpu.specs.Processor.{Processor, stopped_processor, started_processor}
use Rattle.m161_cpu.specs.Scene.{around, scene}
use Rattle.m161_cpu.specs.Step.{Stepped, step_of}
use Rattle.m161_isa.specs.Choice.{first_answer}
use Rattle.m161_machine.specs.declared.conf.Conf.{Conf}
use Rattle.m161_machine.specs.declared.event.Conflict.{Conflict}
use Rattle.m161_machine.specs.declared.event.Event.{Event}
use Rattle.m161_machine.specs.declared.event.Event.TheVariants as event
use Rattle.m161_machine.specs.declared.event.Refusal.{Refusal}
use Rattle.m161_machine.specs.declared.event.Refusal.TheVariants.{BadProcessor, Off, Worn, KeyFull as KeyFullRefusal, NothingSent, NoMemory}

-- The state of a machine, and what an event does to it.

-- what a machine holds; of a link of `ll` only its unit, if it is live
pub record State : Type 0 where
  pub conf : Conf
  pub processors : List Processor
  pub memory : List ℕ
  pub board : BoardState
  -- the unit of links, and the first byte of each live link's
  pub links : LinkState
  -- how many events were accepted since boot
  pub made : ℕ
  -- what switched a strict machine off
  pub conflict : Option Conflict

-- a processor by its number
abbrev pub processor_at : ℕ → List Processor → Processor
processor_at p processors = slice_index_or processors p stopped_processor

abbrev pub state_of :
    Conf → List Processor → List ℕ → BoardState → LinkState → ℕ → Option Conflict → State
state_of conf processors memory board links made conflict = record {
  conf = conf;
  processors = processors;
  memory = memory;
  board = board;
  links = links;
  made = made;
  conflict = conflict;
}

-- what a Step of processor p gives
abbrev pub step_on : ℕ → State → Stepped
step_on p s =
    step_of
    (scene (processor_at p s.processors) (around p s.memory s.board s.links s.conf.strict))

unfoldable pub step_result : ℕ → State → Stepped
step_result p s = step_on p s

-- processor c is started if its bit of CPUE is new: with the words of its CRAM; the count of its
-- Steps stays
abbrev pub started_by : ℕ → BoardState → ℕ → Processor → Processor
started_by before board c p =
    if has_bit board.started c && not (has_bit before c)
    then started_processor (start_words c board).pc (start_words c board).r4
    (start_words c board).r29 p.count
    else p

-- the processors from number c on
abbrev pub with_starts : ℕ → BoardState → ℕ → List Processor → List Processor
with_starts before board c [] = []
with_starts before board c (p ∷ ps) =
    started_by before board c p ∷ with_starts before board (c + 1) ps

-- the conflict of a Step of processor p, if its outcome is one, else what was before
abbrev pub conflict_after : ℕ → Outcome → Option Conflict → Option Conflict
conflict_after p Ran before = before
conflict_after p (Trapped code vector) before = before
conflict_after p Idle before = before
conflict_after p PoweredOff before = before
conflict_after p (ConflictOutcome row other) before =
    Some (record { processor = p; row = row; other = other })
conflict_after p Taken before = before

-- the state after a Step: what the Step gives, and then the processors that it started
abbrev pub with_step : ℕ → Stepped → State → State
with_step p x s = record s {
  processors =
      with_starts s.board.started x.after.around.board 0
      (slice_set s.processors p x.after.processor);
  memory = x.after.around.memory;
  board = x.after.around.board;
  links = x.after.around.links;
  made = s.made + 1;
  conflict = conflict_after p x.outcome s.conflict;
}

-- the state after an input of a device
abbrev pub with_board : BoardState → State → State
with_board board s = record s { board = board; made = s.made + 1 }

-- whether a machine that accepted this many events accepts no more
abbrev pub is_worn : ℕ → Bool
is_worn made = nat_le 9223372036854775807 made

-- why an event is refused, whatever it would do
abbrev pub refusal : State → Event → Option Refusal
refusal s (event.Step p) =
    first_answer ((nat_le (length s.processors) p, BadProcessor) ∷
    (s.board.off, Off) ∷ (is_worn s.made, Worn) ∷ [])
refusal s (event.Key byte) = first_answer ((s.board.off, Off) ∷ (is_worn s.made, Worn) ∷ [])
refusal s event.Done = first_answer ((s.board.off, Off) ∷ (is_worn s.made, Worn) ∷ [])

-- the result of a device's input
abbrev pub answered_key : State → Result BoardState KeyFull → Result (Outcome × State) Refusal
answered_key s (Ok board) = Ok (Taken, with_board board s)
answered_key s (Err e) = Err KeyFullRefusal

abbrev pub refusal_of_done : DoneError → Refusal
refusal_of_done done.NothingSent = NothingSent
refusal_of_done done.NoMemory = NoMemory

abbrev pub answered_done : State → Result BoardState DoneError → Result (Outcome × State) Refusal
answered_done s (Ok board) = Ok (Taken, with_board board s)
answered_done s (Err e) = Err (refusal_of_done e)

-- an answer, unless there is a refusal
abbrev pub unless :
    Option Refusal → Result (Outcome × State) Refusal → Result (Outcome × State) Refusal
unless None answer = answer
unless (Some r) answer = Err r

-- the result of an event that no test of `refusal` refuses; a device may still refuse it
abbrev pub answer : State → Event → Result (Outcome × State) Refusal
answer s (event.Step p) = Ok ((step_result p s).outcome, with_step p (step_result p s) s)
answer s (event.Key byte) = answered_key s (board_key byte s.board)
answer s event.Done = answered_done s (board_done s.board)

-- the result of an event: its outcome and the state after it, or the first refusal that holds
unfoldable pub next : State → Event → Result (Outcome × State) Refusal
next s e = unless (refusal s e) (answer s e)

-- how many Steps each processor has made
abbrev pub counts : State → List ℕ
counts s = map (λ (p : Processor). p.count) s.processors

-- the word at a physical address, if it is aligned and within RAM
abbrev pub word_in : List ℕ → ℕ → Option ℕ
word_in memory at =
    if (at % 4 == 0) && nat_le (at + 4) (length memory) then Some (word_at memory at) else None

-- each of these processors has made at most n Steps
abbrev pub CountUpTo : ℕ → List Processor → Type 0
CountUpTo n processors = All (λ (p : Processor). p.count ≤ n) processors

-- of none of these processors two rows of its TLB overlap
abbrev pub AreAllApart : List Processor → Type 0
AreAllApart processors = All (λ (p : Processor). AreApart p.rows) processors

-- the configuration and the sizes of a state stay
abbrev pub KeepsSizes : State → State → Type 0
KeepsSizes old new =
    (new.conf ≡ old.conf)
    × (length new.processors ≡ length old.processors) × (length new.memory ≡ length old.memory)

-- a state as it is stored: how many bytes its console can send before memory is needed again is no
-- part of the state
pub record CoreValue : Type 0 where
  pub state : State
  pub room : ℕ
