use Rattle.std.specs.Prelude.{drop, map}
use Rattle.std.proofs.Common.{◌≡◌}
use Rattle.m161_asm.specs.Text.{each, field_of}
use Rattle.m161_asm.specs.Seen.{symbols_seen}
use Rattle.m161_asm.specs.helpers.Seen.{with_front, part_seen}
use Rattle.m161_asm.proofs.values.fields_of.Given as goal

abbrev pub invariant-loop-part : goal.invariant-loop-part
invariant-loop-part l =
    with_front l.fields.items
    (each (field_of (symbols_seen l.symbols) l.at) (map part_seen (drop l.part-index l.parts)))
    ≡ each (field_of (symbols_seen l.symbols) l.at) (map part_seen l.parts)
