use Rattle.std.specs.Prelude.{cond, ◌==◌, Option, None, Some}
use Rattle.std.proofs.Common.{◌≡◌, ℕ, Bool, true, false, refl, sym, ap, ◌∙◌}
use Rattle.std.proofs.lemmas.Bool.Decides.{Decides-eqb}
use Rattle.m161_isa.specs.declared.table.Row.{Row}
use Rattle.m161_isa.specs.Table.{row_that_fits, IsCanonical}
use Rattle.m161_isa.proofs.OneRow.{row_that_fits-is, row_that_fits-fits}
use Rattle.m161_dis.specs.Canon.{canonical_by, canonical_row}

-- The row of a canonical word is the one that it fits, and no other word has one.

chosen : (word u : ℕ) (r : Row) → word ≡ u → cond (word == u) (Some r) None ≡ Some r
chosen word u r e = rw ((Decides-eqb word u).1 e) refl

left : (b : Bool) (r : Row) → (b ≡ true → ⊥) → cond b (Some r) None ≡ None
left true r never = absurd (never refl)
left false r never = refl

pub canonical_is : (word : ℕ) (o : Option Row) → o ≡ row_that_fits word → IsCanonical word
    → o ≡ canonical_row word
unfolding canonical_row
canonical_is word o d (r, fits, e) =
    let found = row_that_fits-is word r fits in
    d ∙ found ∙ sym (ap (canonical_by word) found ∙ chosen word _ r e)

none_by : (word : ℕ) (o : Option Row) → row_that_fits word ≡ o → (IsCanonical word → ⊥)
    → canonical_by word o ≡ None
none_by word None e never = refl
none_by word (Some r) e never =
    left _ r (λ t. never (r, row_that_fits-fits word r e, (Decides-eqb word _).0 t))

pub other_is : (word : ℕ) → (IsCanonical word → ⊥) → None ≡ canonical_row word
unfolding canonical_row
other_is word never = sym (none_by word (row_that_fits word) refl never)
