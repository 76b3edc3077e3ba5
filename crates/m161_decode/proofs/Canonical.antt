use Rattle.std.specs.Prelude.{Option, None, Some, IsSome, is_some, ◌==◌, ◌↔◌, IsTrue}
use Rattle.std.proofs.Common.{◌≡◌, ℕ, refl, ap, sym, ◌∙◌, inl}
use Rattle.std.proofs.lemmas.Bool.Decides.{Decides-eqb}
use Rattle.m161_isa.specs.declared.table.Row.{Row}
use Rattle.m161_isa.specs.declared.instr.Instr.{Instr}
use Rattle.m161_isa.specs.Table.{row_that_fits, IsCanonical}
use Rattle.m161_isa.specs.Instr.{instr_by, instr_of, word_of}
use Rattle.m161_isa.proofs.OneRow.{row_that_fits-is, row_that_fits-fits}
use Rattle.m161_isa.proofs.RoundTrips.{word_of-instr_by, comes_back}

-- A word is canonical exactly where it fits a row and comes back.

canonical_by : (word : ℕ) (o : Option Row) → row_that_fits word ≡ o → IsSome o
    → word_of (instr_by word o) ≡ word → IsCanonical word
canonical_by word None e some back = cc
canonical_by word (Some r) e some back =
    (r, row_that_fits-fits word r e, sym back ∙ word_of-instr_by word r)

pub canonical : (word code : ℕ) (i : Instr) → i ≡ instr_of word → code ≡ word_of i
    → IsSome (row_that_fits word) → IsTrue (code == word) ↔ IsCanonical word
canonical word code i e d some =
    let same : code ≡ word_of (instr_of word) = d ∙ ap word_of e in
    let test = Decides-eqb code word in (
      λ t. canonical_by word (row_that_fits word) refl some (sym same ∙ test.0 t),
      λ h. test.1
          (same ∙ comes_back word (inl h)),
    )

-- a canonical word fits a row
pub canonical_fits : (word : ℕ) → IsCanonical word → IsSome (row_that_fits word)
canonical_fits word (r, fits, _) = ap is_some (row_that_fits-is word r fits)
