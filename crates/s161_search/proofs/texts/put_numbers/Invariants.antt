use Rattle.std.proofs.Common.{◌≡◌, ◌++◌, take, string_bytes}
use Rattle.s161_search.specs.Texts.{numbers_text}
use Rattle.s161_search.proofs.texts.put_numbers.Given as goal

-- the numbers so far
abbrev pub invariant-loop-number : goal.invariant-loop-number
invariant-loop-number l = string_bytes l.text ≡ string_bytes l.fn.text ++ numbers_text (take l.number-index l.numbers)
