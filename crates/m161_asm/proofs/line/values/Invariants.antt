use Rattle.std.proofs.Common.{◌≡◌, ◌-◌, length}
use Rattle.std.specs.Prelude.{map}
use Rattle.m161_asm.specs.Lines.{values}
use Rattle.m161_asm.specs.helpers.Seen.{all_seen, value_seen, with_front}
use Rattle.m161_asm.proofs.line.values.Given as goal

abbrev pub invariant-loop-i : goal.invariant-loop-i
invariant-loop-i l =
    with_front (map value_seen l.found.items) (values (length l.ts - l._i) l.past (all_seen l.rest))
    ≡ values (length l.ts) l.past (all_seen l.ts)
