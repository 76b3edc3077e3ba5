use Rattle.std.specs.Prelude.{◌≡◌, ℕ, ◌+◌, List, ◌++◌, Option, Some, IfSome}
use Rattle.std.specs.List.{AllByRecursion}
use Rattle.m161_machine.specs.declared.event.Entry.{Entry}
use Rattle.m161_text.specs.Lines.{lines_of}
use Rattle.m161_steplog.specs.declared.fault.TextFault.{TextFault}
use Rattle.m161_steplog.specs.declared.fault.TextFault.TheVariants as faults
use Rattle.m161_steplog.specs.declared.mode.Mode.{Mode}
use Rattle.m161_steplog.specs.Text.{entry_text}
use Rattle.m161_steplog.specs.Log.{log_lines, IsEntryOf, IsHeader}

-- How the code sees an entry of a log of this mode: no other entry has its line.
pub record IsDistinct (mode : Mode) (e : Entry) : Type 0 where
  pub fits : IsEntryOf mode e
  pub alone : (x : Entry) → IsEntryOf mode x → entry_text e ≡ entry_text x → e ≡ x

-- a first line is read: the result is its mode, or it has none
pub record ReadsHeader (line : List ℕ) (result : Option Mode) : Type 0 where
  pub found : IfSome result (λ mode. IsHeader mode line)
  pub only : (mode : Mode) → IsHeader mode line → result ≡ Some mode

-- a text was read line by line: a first line of this mode, lines that no other entries have, and
-- the lines that are left
pub record ReadsLines (text : List ℕ) (mode : Mode) (es : List Entry) (left : List (List ℕ))
    : Type 0 where
  pub header : List ℕ
  pub first : IsHeader mode header
  pub each : AllByRecursion (IsDistinct mode) es
  pub lines : lines_of text ≡ log_lines header es ++ left

-- a fault of a text behind so many lines, as one of the whole text
abbrev pub fault_behind : ℕ → TextFault → TextFault
fault_behind count (faults.Line n) = faults.Line (count + n)
fault_behind count faults.NoMemory = faults.NoMemory
