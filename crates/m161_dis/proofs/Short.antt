use Rattle.std.specs.Prelude.{nat_le, ◌&&◌}
use Rattle.std.specs.List.{list_all, slice_get}
use Rattle.std.proofs.Common.{◌≡◌, ℕ, zero, suc, ◌≤◌, Bool, true, List, [], ◌∷◌, length, Some, refl, arith}
use Rattle.std.proofs.lemmas.Bool.{and_parts}
use Rattle.std.proofs.lemmas.Bool.Decides.{nat_tests}
use Rattle.m161_isa.specs.declared.operand.Operand.{Operand}
use Rattle.m161_isa.specs.declared.table.Row.{Row}
use Rattle.m161_isa.specs.declared.table.Row.TheVariants as rows
use Rattle.m161_isa.specs.Table.{table}
use Rattle.m161_asm.specs.Tokens.{register_names}

-- How long the parts of a text are at most.

abbrev pub is_short : Row → Bool
is_short r = nat_le (length (table r).name) 8 && nat_le (length (table r).operands) 3

all_short : (r : Row) → is_short r ≡ true
all_short rows.Sll = refl
all_short _ = refl

at_most : (n most : ℕ) → nat_le n most ≡ true → n ≤ most
at_most n most e = grind (arith, nat_tests)

-- a row's name has 8 bytes at most
pub short_name : (name : List ℕ) (r : Row) → name ≡ (table r).name → length name ≤ 8
short_name name r e =
    rw e (at_most (length (table r).name) 8 (and_parts (nat_le (length (table r).name) 8) (nat_le (length (table r).operands) 3) (all_short r)).0)

-- and a row 3 operands
pub few_operands : (operands : List Operand) (r : Row) → operands ≡ (table r).operands
    → length operands ≤ 3
few_operands operands r e =
    rw e (at_most (length (table r).operands) 3 (and_parts (nat_le (length (table r).name) 8) (nat_le (length (table r).operands) 3) (all_short r)).1)

short_among : (xs : List (List ℕ)) (n most : ℕ) (x : List ℕ)
    → list_all (λ y. nat_le (length y) most) xs ≡ true → slice_get xs n ≡ Some x
    → length x ≤ most
short_among [] n most x all found = absurd (cc)
short_among (y ∷ ys) zero most x all found =
    let same : y ≡ x = cc in
    rw (← same) (at_most (length y) most (and_parts (nat_le (length y) most) (list_all (λ z. nat_le (length z) most) ys) all).0)
short_among (y ∷ ys) (suc n) most x all found =
    short_among ys n most x (and_parts (nat_le (length y) most) (list_all (λ z. nat_le (length z) most) ys) all).1 found

names_short : list_all (λ y. nat_le (length y) 4) register_names ≡ true
unfolding register_names
names_short = refl

-- a register's name has 4 bytes at most
pub short_register : (name : List ℕ) (n : ℕ) → slice_get register_names n ≡ Some name
    → length name ≤ 4
short_register name n found = short_among register_names n 4 name names_short found
