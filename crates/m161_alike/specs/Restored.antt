use Rattle.std.specs.Prelude.{◌≡◌, ℕ, ◌+◌, ◌*◌, ◌/◌, ◌%◌, ◌^◌, ◌<◌, ◌≤◌, max, ◌==◌, if◌then◌else◌, All, List, take, map, slice_index, slice_set}
use Rattle.std.specs.List.{range_with_len}
use Rattle.m161_tlb.specs.declared.row.Row.{Row as TlbRow}
use Rattle.m161_cop0.specs.declared.control.restore.Cop0Parts.{Cop0Parts}
use Rattle.m161_cop0.specs.Restore.{ticks_to}
use Rattle.m161_cpu.specs.declared.processor.ProcessorState.{ProcessorState}
use Rattle.m161_cpu.specs.declared.processor.ProcessorState.TheVariants.{Stopped, Running, Waiting}
use Rattle.m161_cpu.specs.declared.processor.restore.ProcessorParts.{ProcessorParts}
use Rattle.m161_cpu.specs.Processor.{Processor}
use Rattle.m161_alike.specs.declared.reads.Reads.{Reads}
use Rattle.m161_alike.specs.View.{processor_view}
use Rattle.m161_alike.specs.Words.{HasSizes, processor_words}

-- Processors that are made anew from the words of their views.

-- a row of a TLB of a machine
pub record IsRow (r : TlbRow) : Type 0 where
  pub page : r.page < 2 ^ 20
  pub id : r.id < 2 ^ 6
  pub frame : r.frame < 2 ^ 20

-- a processor of a machine: its lists have their sizes, and its parts their bounds
pub record CanBeHeld (p : Processor) : Type 0 where
  pub sizes : HasSizes p
  pub zero : slice_index p.registers 0 ≡ 0
  pub lowest : 8 ≤ p.control.random
  pub highest : p.control.random ≤ 63
  pub unit : p.control.unit < 4
  pub code : p.control.code < 2 ^ 8
  pub software : p.control.software < 4
  pub rows : All IsRow p.rows

-- the words are those of the view of such a processor
pub record AreWordsOf (words : List ℕ) (known : Reads) (p : Processor) : Type 0 where
  pub held : CanBeHeld p
  pub words_are : words ≡ processor_words (processor_view known p)

-- a processor whose Steps are the least ticks that bring Random to its row
abbrev pub with_ticks : Processor → Processor
with_ticks p = record p {
  control = record p.control { age = ticks_to p.control.random };
  count = ticks_to p.control.random;
}

-- what words hold by their places, brought within the bounds of what it is

abbrev pub row_of_words : ℕ → ℕ → ℕ → TlbRow
row_of_words page frame rest = record {
  page = page % 2 ^ 20;
  id = rest / 16 % 2 ^ 6;
  frame = frame % 2 ^ 20;
  n = rest / 8 % 2 == 1;
  d = rest / 4 % 2 == 1;
  v = rest / 2 % 2 == 1;
  g = rest % 2 == 1;
}

abbrev pub row_in : List ℕ → ℕ → TlbRow
row_in words i =
    row_of_words (slice_index words (53 + 3 * i)) (slice_index words (54 + 3 * i))
    (slice_index words (55 + 3 * i))

abbrev pub rows_in : List ℕ → List TlbRow
rows_in words = map (row_in words) (range_with_len 0 64)

abbrev pub state_with : ℕ → ProcessorState
state_with number = if number == 0 then Stopped else if number == 1 then Running else Waiting

abbrev pub control_in : List ℕ → Cop0Parts
control_in words = record {
  index = slice_index words 38;
  random = max (slice_index words 39 % 64) 8;
  entry_lo = slice_index words 40;
  context = slice_index words 41;
  bad_vaddr = slice_index words 42;
  count = slice_index words 43;
  entry_hi = slice_index words 44;
  compare = slice_index words 45;
  status = slice_index words 46;
  epc = slice_index words 47;
  cause = record {
    branch_delay = slice_index words 48 == 1;
    unit = slice_index words 49 % 4;
    code = slice_index words 50 % 2 ^ 8;
    timer = slice_index words 51 == 1;
    software = slice_index words 52 % 4;
  };
}

abbrev pub processor_in : List ℕ → ProcessorParts
processor_in words = record {
  registers = slice_set (take 32 words) 0 0;
  hi = slice_index words 32;
  lo = slice_index words 33;
  pc = slice_index words 34;
  following = slice_index words 35;
  slot = slice_index words 36 == 1;
  state = state_with (slice_index words 37);
  control = control_in words;
}
