use Rattle.std.proofs.Common.{map, take}
use Rattle.m161_symbols.specs.Table.{seen, AreFound}
use Rattle.m161_symbols.proofs.named.values_by_name.Given as goal

abbrev pub invariant-loop-symbol : goal.invariant-loop-symbol
invariant-loop-symbol l = AreFound (map seen (take l.symbol-index l.symbols)) l.by_name
