use Rattle.std.specs.Prelude.{◌≡◌, ◌⊎◌, ℕ, ◌+◌, ◌*◌, Option, List, ◌∷◌, length, unwrap_or, Result, Ok, Err}
use Rattle.m161_asm.specs.Segments.{segment_seen, segments_seen}
use Rattle.m161_asm.specs.declared.second.SecondPass.{SecondPass}
use Rattle.m161_asm.specs.declared.statement.ReadError.{ReadError}
use Rattle.m161_asm.specs.declared.statement.ReadError.TheVariants as errors
use Rattle.m161_asm.specs.declared.error.AsmError.{AsmError}
use Rattle.m161_asm.specs.declared.error.ErrorKind.TheVariants as faults
use Rattle.m161_asm.specs.Lines.{SourceLine}
use Rattle.m161_asm.specs.Text.{Segment, segments_of, full, opened_at, address_below, address_from, entry_of}
use Rattle.m161_asm.specs.helpers.Seen.{fault_seen}

-- What the second pass keeps of the lines above.

-- the pass has the segments and the entry of these lines, and is at the position after them
pub record IsFilled (p : SecondPass) (symbols : List (List ℕ × ℕ)) (above : List SourceLine)
    : Type 0 where
  pub older : List Segment
  pub segments : segments_of symbols above ≡ Ok (segment_seen p.current ∷ older)
  pub done : full older ≡ segments_seen p.done.items
  pub address : p.address ≡ address_below above
  pub entry : (first : ℕ) → entry_of symbols first above ≡ unwrap_or p.entry first

-- the position after `size` words, in a new segment if a statement opens one
pub record AdvancesPass (old new : SecondPass) (origin : Option ℕ) (size : ℕ) : Type 0 where
  pub segments : (older : List Segment) → full older ≡ segments_seen old.done.items
      → (newer : List Segment)
      × (segment_seen new.current ∷ newer ≡ opened_at origin (segment_seen old.current ∷ older))
      × (full newer ≡ segments_seen new.done.items)
  pub address : new.address ≡ address_from origin (old.address + 4 * size)
  pub entry : new.entry ≡ old.entry

-- the pass goes one line further, unless memory is refused
abbrev pub FillsLine : Result (Unit {0}) ReadError → SecondPass → List (List ℕ × ℕ)
    → List SourceLine → Type 0
FillsLine (Ok u) new symbols all = IsFilled new symbols all
FillsLine (Err errors.Memory) new symbols all = Unit {0}
FillsLine (Err (errors.Fault f)) new symbols all =
    segments_of symbols all ≡ Err (length all, fault_seen f)

-- the second pass over these lines
abbrev pub Passes : Result SecondPass AsmError → List (List ℕ × ℕ) → List SourceLine → Type 0
Passes (Ok p) symbols all = IsFilled p symbols all
Passes (Err e) symbols all =
    ((e.kind ≡ faults.NoMemory) × (e.column ≡ 1))
    ⊎ (segments_of symbols all ≡ Err (e.line, (e.kind, e.column)))
