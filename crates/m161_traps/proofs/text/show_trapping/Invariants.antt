use Rattle.std.proofs.Common.{◌≡◌, None, flat_map, string_bytes}
use Rattle.std.specs.Prelude.{slice_index_or}
use Rattle.std.specs.List.{range_with_len}
use Rattle.m161_traps.specs.Shown.{trapping_if}
use Rattle.m161_traps.proofs.text.show_trapping.Given as goal

-- the notes on the processors so far
abbrev pub invariant-loop-p : goal.invariant-loop-p
invariant-loop-p l =
    string_bytes l.text ≡ flat_map (λ p. trapping_if p (slice_index_or l.tails p None)) (range_with_len 0 l.p)
