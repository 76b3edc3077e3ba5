use Rattle.std.specs.Prelude.{ℕ, List, Option}
use Rattle.m161_moves.specs.declared.doing.Doing.{Doing}

-- What is seen of a run at each of its places. The first argument is the place; a text is its bytes.
pub record Scene : Type 0 where
  -- how many processors there are, and how many events the run's list has, also behind the run's end
  pub processors : ℕ
  pub count : ℕ
  -- of a processor: what it does, and its word of this number, as `g` counts them, if it has one
  pub doing : ℕ → ℕ → Doing
  pub register : ℕ → ℕ → ℕ → Option ℕ
  -- the byte of RAM that a processor has at a virtual address, if it has one
  pub byte : ℕ → ℕ → ℕ → Option ℕ
  -- what the console has shown
  pub console : ℕ → List ℕ
  -- the next event as in a schedule, or what ends the run there, without a line's end
  pub next : ℕ → List ℕ
  -- the events before the place as a schedule, and the lines of the last of them, this number
  pub schedule_text : ℕ → List ℕ
  pub trace_text : ℕ → ℕ → List ℕ
  -- the debugger's lines: where the processors are, and of a processor its registers, those of its
  -- coprocessor, and its TLB
  pub where_text : ℕ → List ℕ
  pub registers_text : ℕ → ℕ → List ℕ
  pub cop0_text : ℕ → ℕ → List ℕ
  pub tlb_text : ℕ → ℕ → List ℕ
  -- and words from an address on, this number; none where the debugger has a bad argument
  pub memory_text : ℕ → ℕ → ℕ → Option (List ℕ)
