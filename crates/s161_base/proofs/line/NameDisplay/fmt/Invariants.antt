use Rattle.std.proofs.Common.{◌≡◌, ℕ, List, ◌++◌}
use Rattle.std.specs.Fmt.{HasWritten, IsPlainFormatter}
use Rattle.std.specs.Str.Iter.{chars_rest}
use Rattle.s161_base.specs.FaultLines.{shown_name}
use Rattle.s161_base.proofs.line.NameDisplay.fmt.Given as goal

-- the characters so far are written
abbrev pub invariant-loop-c : goal.invariant-loop-c
invariant-loop-c g l =
    IsPlainFormatter l.fn.f
    → (done : List ℕ) × HasWritten g.W.Write.write_str_gives l.fn.f done l.f × (done ++ shown_name (chars_rest l.rest) ≡ shown_name l.fn.self.0.now)
