use Rattle.std.proofs.Common.{◌≡◌, ◌∙◌, refl, sym, ℕ, zero, suc, ◌+◌, ◌*◌, ◌<◌, arith, Bool, true, false, List, [], ◌∷◌, length, get_or, map, Option, None, Some}
use Rattle.std.specs.Prelude.{◌==◌, flat_map, slice_index}
use Rattle.std.specs.List.{range_with_len}
use Rattle.std.proofs.lemmas.List.FromFn.{fill_by_all}
use Rattle.m161_alike.specs.Words.{flag, optional}
use Rattle.m161_states.specs.System.{Flags}
use Rattle.m161_states.specs.Views.{flag_words}
use Rattle.m161_reach.specs.helpers.Restore.{agreed_in, flags_in}
use Rattle.m161_reach.proofs.Keeping.{none_kept}

-- What is kept beside the machine, by its words.

flag_back : (b : Bool) → (flag b == 1) ≡ b
flag_back true = refl
flag_back false = refl

flags_there : (fs : List Flags) (k : ℕ) → k < length fs → flags_in (flat_map flag_words fs) k ≡ get_or fs k none_kept
flags_there [] k below = absurd (let bad : ⊥ = omega (arith, below) in bad)
flags_there (f ∷ fs) zero below =
    let changed = flag_back f.changed in
    let gone_on = flag_back f.gone_on in
    λ i. record { changed = changed i; gone_on = gone_on i }
flags_there (f ∷ fs) (suc k) below =
    let first : 2 * suc k ≡ suc (suc (2 * k)) = omega arith in
    let second : 2 * suc k + 1 ≡ suc (suc (2 * k + 1)) = omega arith in
    (λ i. record {
      changed = slice_index (flat_map flag_words (f ∷ fs)) (first i) == 1;
      gone_on = slice_index (flat_map flag_words (f ∷ fs)) (second i) == 1;
    })
    ∙ flags_there fs k (omega (arith, below))

pub flags_back : (fs : List Flags) → map (flags_in (flat_map flag_words fs)) (range_with_len 0 (length fs)) ≡ fs
flags_back fs = sym (fill_by_all (flags_in (flat_map flag_words fs)) fs (length fs) none_kept refl (λ k below. sym (flags_there fs k below)))

pub agreed_back : (o : Option ℕ) → agreed_in (slice_index (optional o) 0) (slice_index (optional o) 1) ≡ o
agreed_back None = refl
agreed_back (Some n) = refl
