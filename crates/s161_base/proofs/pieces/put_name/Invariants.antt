use Rattle.std.proofs.Common.{◌≡◌, ℕ, List, ◌++◌, length}
use Rattle.std.specs.Io.KnownBytes.{Appends}
use Rattle.s161_base.specs.FaultLines.{shown_name}
use Rattle.s161_base.proofs.pieces.put_name.Given as goal

-- the bytes before the rest are written
abbrev pub invariant-loop-rest : goal.invariant-loop-rest
invariant-loop-rest g l =
    (done : List ℕ) × Appends (g.E.Write.contents l.fn.errors) (g.E.Write.contents l.errors) done × (done ++ shown_name l.rest ≡ shown_name l.name)

abbrev pub decreases-loop-rest : goal.decreases-loop-rest
decreases-loop-rest g l = length l.rest
