use Rattle.std.specs.Prelude.{ℕ, Bool, true, false, Option, None, Some}
use Rattle.m161_isa.specs.declared.effect.Effect.{Effect}
use Rattle.m161_isa.specs.declared.effect.Effect.TheVariants as effect
use Rattle.m161_isa.specs.declared.table.Row.{Row}
use Rattle.m161_isa.specs.Table.{row_that_fits, table}

-- effects that write rows of the TLB, or may read or write words of the board
abbrev pub is_far : Effect → Bool
is_far effect.WriteTlbIndexed = true
is_far effect.WriteTlbRandom = true
is_far effect.LoadWord = true
is_far effect.StoreWord = true
is_far _ = false

abbrev pub is_far_row : Option Row → Bool
is_far_row None = false
is_far_row (Some r) = is_far (table r).effect

unfoldable pub is_far_word : ℕ → Bool
is_far_word word = is_far_row (row_that_fits word)

abbrev pub is_far_found : Option ℕ → Bool
is_far_found None = false
is_far_found (Some word) = is_far_word word
