-- Words that a processor would fetch.
use Rattle.std.proofs.Common.{◌≡◌, ◌∙◌, ℕ, ◌+◌, ◌<◌, Bool, true, false, ◌&&◌, [], ◌∷◌, ap, arith, is_none, is_some, refl, Option, None, Some}
use Rattle.std.specs.List.{list_all, range_with_len}
use Rattle.std.proofs.lemmas.List.Folds.{list_all-append, list_all_at}
use Rattle.std.proofs.lemmas.List.FromFn.{length-range_with_len, get_or-range_with_len}
use Rattle.m161_display.proofs.Shown.{range_more}

-- one more passes
pub passes_more : (test : ℕ → Bool) (n : ℕ) → list_all test (range_with_len 0 n) ≡ true → test n ≡ true → list_all test (range_with_len 0 (n + 1)) ≡ true
passes_more test n before here = ap (list_all test) (range_more n) ∙ list_all-append test (range_with_len 0 n) (n ∷ []) ∙ rw (before, here) refl

-- one doesn't
pub fails_at : (test : ℕ → Bool) (n i : ℕ) → i < n → test i ≡ false → list_all test (range_with_len 0 n) ≡ false
fails_at test n i lt here =
    let same : 0 + i ≡ i = omega arith in
    list_all_at test (range_with_len 0 n) i 0 (omega (arith, lt, length-range_with_len 0 n)) (ap test (get_or-range_with_len 0 n i 0 lt ∙ same) ∙ here)

-- tests of words

pub none_there : (word : Option ℕ) → is_none word ≡ true → is_some word ≡ false
none_there None none = refl
none_there (Some w) none = absurd (cc)

pub some_there : (word : Option ℕ) → is_none word ≡ false → is_some word ≡ true
some_there None some = absurd (cc)
some_there (Some w) some = refl

pub and_fails : (a b : Bool) → b ≡ false → false ≡ (a && b)
and_fails true b h = cc
and_fails false b h = refl
