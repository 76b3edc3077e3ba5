use Rattle.std.proofs.Common.{map, take}
use Rattle.s161_search.specs.Never.{AreAddresses}
use Rattle.s161_search.proofs.never.addresses_of.Given as goal

-- the addresses so far are those of the first words
abbrev pub invariant-loop-word : goal.invariant-loop-word
invariant-loop-word l = AreAddresses l.symbols (take l.word-index (map (λ word. word.now) l.words)) l.addresses.items
