use Rattle.std.proofs.Common.{◌≡◌, ◌++◌, map, drop}
use Rattle.m161_symbols.specs.helpers.{places_from}
use Rattle.m161_symbols.specs.Table.{seen}
use Rattle.m161_symbols.proofs.named.places.Given as goal

-- the places that are left
abbrev pub invariant-loop-number : goal.invariant-loop-number
invariant-loop-number l =
    l.places.items ++ places_from l.number (map seen (drop l.number l.symbols))
    ≡ places_from 0 (map seen l.symbols)
