use Rattle.std.proofs.Common.{◌≡◌, ◌+◌, true, drop}
use Rattle.m161_elf.specs.helpers.Symbols.{has_zero, shown_after}
use Rattle.m161_elf.proofs.symbol_table.shown_length.Given as goal

-- the bytes that are left decide, and one of them is zero
abbrev pub invariant-loop-seen : goal.invariant-loop-seen
invariant-loop-seen l = record {
  same : shown_after l.seen (drop (l.at + l.seen) l.strings) ≡ shown_after 0 (drop l.at l.strings);
  ends : has_zero (drop (l.at + l.seen) l.strings) ≡ true;
}
