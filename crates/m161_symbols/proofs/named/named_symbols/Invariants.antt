use Rattle.std.proofs.Common.{◌≡◌, map, take}
use Rattle.m161_symbols.specs.Names.{named}
use Rattle.m161_symbols.specs.Table.{seen}
use Rattle.m161_symbols.proofs.named.named_symbols.Given as goal

abbrev pub invariant-loop-symbol : goal.invariant-loop-symbol
invariant-loop-symbol l =
    map seen l.symbols.items ≡ map (named l.file) (take l.symbol-index l.listed)
