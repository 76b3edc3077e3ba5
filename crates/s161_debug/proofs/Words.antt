use Rattle.std.proofs.Common.{◌≡◌, ℕ, ◌<◌, true, List, [], ◌∷◌, length, get_or, eqb, refl, ap, arith, ne_eqb}
use Rattle.m161_text.specs.Parts.{◌␣◌, Lacks}
use Rattle.m161_text.proofs.Parts.{rest_lacks}
use Rattle.m161_debug.specs.Commands.{first_word}
use Rattle.s161_debug.specs.Lines.{is_silent}

-- What a line asks for.

-- whether a line answers nothing, as the code tests it
pub silent_empty : (line : List ℕ) → length line ≡ 0 → true ≡ is_silent line
silent_empty [] none = refl
silent_empty (b ∷ bs) none = absurd (omega (arith, none))

pub silent_test : (line : List ℕ) → 0 < length line → is_silent line ≡ eqb (get_or line 0 0) 35
silent_test [] some = absurd (omega (arith, some))
silent_test (b ∷ bs) some = refl

-- its first word

pub first_word_alone : (line : List ℕ) → Lacks 32 line → line ≡ first_word line
first_word_alone [] lacks = refl
first_word_alone (b ∷ bs) lacks = rw (ne_eqb b 32 (lacks 0 (omega arith))) (ap (λ l. b ∷ l) (first_word_alone bs (rest_lacks 32 b bs lacks)))

pub first_word_cut : (word rest : List ℕ) → Lacks 32 word → word ≡ first_word (word ␣ rest)
first_word_cut [] rest lacks = refl
first_word_cut (b ∷ bs) rest lacks = rw (ne_eqb b 32 (lacks 0 (omega arith))) (ap (λ l. b ∷ l) (first_word_cut bs rest (rest_lacks 32 b bs lacks)))
