-- Sets of breakpoints stay sets.
use Rattle.std.proofs.Common.{◌≡◌, ◌∙◌, sym, refl, ◌||◌, Bool, true, false, not, cond, List, [], ◌∷◌, ◌++◌, filter}
use Rattle.std.proofs.lemmas.List.Folds.{list_any-append}
use Rattle.std.proofs.lemmas.Bool.Decides.{nat_tests}
use Rattle.std.proofs.Common.{arith}
use Rattle.m161_debug.specs.declared.breakpoints.Breakpoint.{Breakpoint}
use Rattle.m161_debug.specs.Breakpoints.{has, is_same, without_breakpoint, IsSet}

is_same_back : (b c : Breakpoint) → is_same b c ≡ false → is_same c b ≡ false
is_same_back b c other = grind (arith, nat_tests)

-- a breakpoint is among the kept ones only where it was among all
has_one_more : (b c : Breakpoint) (kept : List Breakpoint) (t s : Bool) (rest : Bool) → s ≡ is_same b c → s || rest ≡ false → (rest ≡ false → has b kept ≡ false) → has b (cond t (c ∷ kept) kept) ≡ false
has_one_more b c kept t true rest is h kept_has = absurd (cc)
has_one_more b c kept true false rest is h kept_has = rw (← is) (kept_has h)
has_one_more b c kept false false rest is h kept_has = kept_has h

has_kept : (b : Breakpoint) (test : Breakpoint → Bool) (bs : List Breakpoint) → has b bs ≡ false → has b (filter test bs) ≡ false
has_kept b test [] none = refl
has_kept b test (c ∷ bs) none = has_one_more b c (filter test bs) (test c) (is_same b c) (has b bs) refl none (has_kept b test bs)

set_one_more : (c : Breakpoint) (kept : List Breakpoint) (t : Bool) → has c kept ≡ false → IsSet kept → IsSet (cond t (c ∷ kept) kept)
set_one_more c kept true none set = (none, set)
set_one_more c kept false none set = set

kept_set : (test : Breakpoint → Bool) (bs : List Breakpoint) → IsSet bs → IsSet (filter test bs)
kept_set test [] set = tt
kept_set test (c ∷ bs) set = set_one_more c (filter test bs) (test c) (has_kept c test bs set.0) (kept_set test bs set.1)

pub set_without : (b : Breakpoint) (bs : List Breakpoint) → IsSet bs → IsSet (without_breakpoint b bs)
set_without b bs set = kept_set (λ c. not (is_same b c)) bs set

has_not : (b c : Breakpoint) (bs : List Breakpoint) → has b (c ∷ bs) ≡ false → (is_same b c ≡ false) × (has b bs ≡ false)
has_not b c bs none = by (is_same b c) refl none
  where
    by : (s : Bool) → s ≡ is_same b c → s || has b bs ≡ false → (is_same b c ≡ false) × (has b bs ≡ false)
    by true is h = absurd (cc)
    by false is h = (sym is, h)

pub set_with : (b : Breakpoint) (bs : List Breakpoint) → has b bs ≡ false → IsSet bs → IsSet (bs ++ b ∷ [])
set_with b [] none set = (refl, tt)
set_with b (c ∷ bs) none set =
    let parts = has_not b c bs none in
    let back : is_same c b ≡ false = is_same_back b c parts.0 in
    (list_any-append (is_same c) bs (b ∷ []) ∙ rw (set.0, back) refl, set_with b bs parts.1 set.1)
