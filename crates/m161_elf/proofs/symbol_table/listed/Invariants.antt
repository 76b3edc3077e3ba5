use Rattle.std.proofs.Common.{◌≡◌}
use Rattle.m161_elf.specs.Symbols.{listed_among}
use Rattle.m161_elf.proofs.symbol_table.listed.Given as goal

abbrev pub invariant-loop-i : goal.invariant-loop-i
invariant-loop-i l = l.listed.items ≡ listed_among l.file l.table l.i
