use Rattle.std.proofs.Common.{◌≡◌, ℕ, List, ◌++◌, length}
use Rattle.std.specs.Prelude.{encode_utf8_all}
use Rattle.std.specs.Fmt.{HasWritten, IsPlainFormatter}
use Rattle.s161_base.specs.FaultLines.{shown_name}
use Rattle.s161_base.proofs.line.CharactersDisplay.fmt.Given as goal

-- the characters so far are written
abbrev pub invariant-loop-rest : goal.invariant-loop-rest
invariant-loop-rest g l =
    IsPlainFormatter l.fn.f
    → (done : List ℕ) × HasWritten g.W.Write.write_str_gives l.fn.f done l.f
    × (done ++ shown_name (encode_utf8_all l.rest) ≡ shown_name (encode_utf8_all l.fn.self.0.now))

abbrev pub decreases-loop-rest : goal.decreases-loop-rest
decreases-loop-rest g l = length l.rest
