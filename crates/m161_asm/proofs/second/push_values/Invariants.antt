use Rattle.std.specs.Prelude.{drop, map}
use Rattle.std.proofs.Common.{◌≡◌}
use Rattle.m161_asm.specs.Text.{each, word_of_value}
use Rattle.m161_asm.specs.Seen.{symbols_seen}
use Rattle.m161_asm.specs.helpers.Seen.{with_front, value_seen}
use Rattle.m161_asm.proofs.second.push_values.Given as goal

abbrev pub invariant-loop-v : goal.invariant-loop-v
invariant-loop-v l =
    with_front l.words.items
    (each (word_of_value (symbols_seen l.symbols)) (map value_seen (drop l.v-index l.values)))
    ≡ with_front l.fn.words.items
    (each (word_of_value (symbols_seen l.symbols)) (map value_seen l.values))
