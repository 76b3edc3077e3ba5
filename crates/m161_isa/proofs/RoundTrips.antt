use Rattle.std.specs.Prelude.{Option, None, Some}
use Rattle.std.proofs.Common.{◌≡◌, ℕ, refl, ap, sym, ◌∙◌, inl, inr}
use Rattle.m161_isa.specs.declared.table.Row.{Row}
use Rattle.m161_isa.specs.declared.table.Row.TheVariants as rows
use Rattle.m161_isa.specs.declared.instr.Coprocessor.{Coprocessor}
use Rattle.m161_isa.specs.declared.instr.Coprocessor.TheVariants as coprocessor
use Rattle.m161_isa.specs.Table.{row_that_fits, numbers_of, absent_in, word_with}
use Rattle.m161_isa.specs.Instr.{misfit, instr_by, instr_of, word_of}
use Rattle.m161_isa.specs.Laws.{ComesBack, DecodesAgain}
use Rattle.m161_isa.proofs.OneRow.{row_that_fits-is}
use Rattle.m161_isa.proofs.InstrBy.{instr_by-same}
use Rattle.m161_isa.proofs.Kept.{kept}

-- Words to instructions and back.

-- the word of a row's instruction; the last equation is checked at each of the 68 other rows
pub word_of-instr_by : (word : ℕ) (r : Row)
    → word_of (instr_by word (Some r)) ≡ word_with r (numbers_of word (Some r))
word_of-instr_by word rows.Sll = refl
word_of-instr_by word _ = refl

pub comes_back : ComesBack
comes_back word (inl (r, h, e)) =
    ap (λ o. word_of (instr_by word o)) (row_that_fits-is word r h) ∙ word_of-instr_by word r
    ∙ sym e
comes_back word (inr e) = ap word_of e

again_misfit : (word : ℕ) (c : Option Coprocessor) → row_that_fits word ≡ None → absent_in word ≡ c
    → instr_of (word_of (misfit word c)) ≡ misfit word c
again_misfit word None e d = ap (instr_by word) e ∙ ap (misfit word) d
again_misfit word (Some coprocessor.One) e d = refl
again_misfit word (Some coprocessor.Two) e d = refl
again_misfit word (Some coprocessor.Three) e d = refl

again : (word : ℕ) (o : Option Row) → row_that_fits word ≡ o
    → instr_of (word_of (instr_by word o)) ≡ instr_by word o
again word None e = again_misfit word (absent_in word) e refl
again word (Some r) e =
    let u = word_with r (numbers_of word (Some r)) in
    let (fits, same) = kept word r in
    ap instr_of (word_of-instr_by word r) ∙ ap (instr_by u) (row_that_fits-is u r fits)
    ∙ instr_by-same u word r same

pub decodes_again : DecodesAgain
decodes_again word = again word (row_that_fits word) refl
