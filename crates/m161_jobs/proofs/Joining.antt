use Rattle.std.proofs.Common.{◌≡◌, ◌∙◌, refl, ap, subst, ℕ, ◌+◌, ◌-◌, ◌<◌, ◌≤◌, Bool, true, false, List, ◌∷◌, ◌++◌, length, arith}
use Rattle.std.proofs.lemmas.Bool.Decides.{nat_tests}
use Rattle.std.proofs.lemmas.List.{length-append}
use Rattle.std.proofs.lemmas.List.FromFn.{length-range_with_len}
use Rattle.std.proofs.lemmas.Nat.{mul-le}
use Rattle.std.proofs.Math.Seq.{get_or-append_seam}
use Rattle.std.specs.Prelude.{Result, Ok, Err, IfErr, IfOk, nat_lt, slice_index_or}
use Rattle.std.specs.List.{range_with_len}
use Rattle.m161_jobs.specs.declared.trials.Tried.{Tried}
use Rattle.m161_jobs.specs.declared.trials.Tried.TheVariants.{Clean, Wrong}
use Rattle.m161_jobs.specs.Trials.{AreRight}
use Rattle.m161_jobs.specs.helpers.Parts.{AreParts, IsAnswerFrom, IsFirstFrom, IsPart, part_start}
use Rattle.m161_jobs.proofs.Rights.{right_at, right_few, right_range}

-- What comes of some trials, and of those behind them.

pub range_few : (right : ℕ → Bool → Type 0) (from to cut : ℕ) → AreRight right (range_with_len from (to - from)) cut → cut ≤ to - from
range_few right from to cut h =
    let few = right_few right (range_with_len from (to - from)) cut h in
    let size = length-range_with_len from (to - from) in
    omega (arith, few, size)

lt_of : (a b : ℕ) → nat_lt a b ≡ true → a < b
lt_of a b h = grind (arith, nat_tests)

ge_of : (a b : ℕ) → nat_lt a b ≡ false → b ≤ a
ge_of a b h = grind (arith, nat_tests)

before_both : (right : ℕ → Bool → Type 0) (from to cut n : ℕ) (less : Bool) → nat_lt n to ≡ less → from ≤ n →
    AreRight right (range_with_len from (to - from)) cut → (to ≤ n → (is_cut : Bool) × right n is_cut) → (is_cut : Bool) × right n is_cut
before_both right from to cut n true less least first rest =
    let below = lt_of n to less in right_at right from (to - from) cut n first least (omega (arith, least, below))
before_both right from to cut n false less least first rest = rest (ge_of n to less)

-- the first that goes wrong, behind right ones
pub first_behind : {W : Type 0} (right : ℕ → Bool → Type 0) (wrong : ℕ → W → Type 0) (from to end last cut place : ℕ) (what : W) →
    from ≤ to → end ≤ last → AreRight right (range_with_len from (to - from)) cut → IsFirstFrom right wrong to end place what →
    IsFirstFrom right wrong from last place what
first_behind right wrong from to end last cut place what least most before first = record {
  least = let here = first.least in omega (arith, least, here);
  within = let here = first.within in omega (arith, most, here);
  is_wrong = first.is_wrong;
  before = λ n more less.
      before_both right from to cut n (nat_lt n to) refl more before (λ behind. first.before n behind less);
}

pub clean_of : {W : Type 0} (right : ℕ → Bool → Type 0) (wrong : ℕ → W → Type 0) (from to : ℕ) (tried : Tried W) (cut : ℕ) → tried ≡ Clean cut →
    IsAnswerFrom right wrong from to tried → AreRight right (range_with_len from (to - from)) cut
clean_of right wrong from to tried cut is h = subst (IsAnswerFrom right wrong from to) is h

pub first_in : {W : Type 0} (right : ℕ → Bool → Type 0) (wrong : ℕ → W → Type 0) (from to : ℕ) (tried : Tried W) (place : ℕ) (what : W) →
    tried ≡ Wrong place what → IsAnswerFrom right wrong from to tried → IsFirstFrom right wrong from to place what
first_in right wrong from to tried place what is h = subst (IsAnswerFrom right wrong from to) is h

-- where parts begin
pub start_zero : (from count size : ℕ) → from ≤ count → part_start from count size 0 ≡ from
start_zero from count size h = omega (arith, h)

pub start_less : (from count size i j : ℕ) → i ≤ j → part_start from count size i ≤ part_start from count size j
start_less from count size i j h = let more = mul-le i size j size h (omega arith) in omega (arith, more)

-- one part, where those before it are known
pub part_at : {W E : Type 0} (right : ℕ → Bool → Type 0) (wrong : ℕ → W → Type 0) (fails : E → Type 0) (start : ℕ → ℕ)
    (all before after : List (Result (Tried W) E)) (part : Result (Tried W) E) (tried : Tried W) → AreParts right wrong fails start all →
    all ≡ before ++ part ∷ after → part ≡ Ok tried → IsAnswerFrom right wrong (start (length before)) (start (length before + 1)) tried
part_at {W} {E} right wrong fails start all before after part tried h is ok =
    let n = length before in
    let whole = ap length is ∙ length-append before (part ∷ after) in
    let here : slice_index_or all n part ≡ part = ap (λ xs. slice_index_or xs n part) is ∙ get_or-append_seam before part after part in
    let answer : IsPart right wrong fails (start n) (start (n + 1)) part =
    subst (IsPart right wrong fails (start n) (start (n + 1))) here (h n part (omega (arith, whole))) in
    subst (λ (r : Result (Tried W) E). IfOk r (IsAnswerFrom right wrong (start n) (start (n + 1)))) ok answer.0

pub failed_at : {W E : Type 0} (right : ℕ → Bool → Type 0) (wrong : ℕ → W → Type 0) (fails : E → Type 0) (start : ℕ → ℕ)
    (all before after : List (Result (Tried W) E)) (part : Result (Tried W) E) (error : E) → AreParts right wrong fails start all →
    all ≡ before ++ part ∷ after → part ≡ Err error → fails error
failed_at {W} {E} right wrong fails start all before after part error h is err =
    let n = length before in
    let whole = ap length is ∙ length-append before (part ∷ after) in
    let here : slice_index_or all n part ≡ part = ap (λ xs. slice_index_or xs n part) is ∙ get_or-append_seam before part after part in
    let answer : IsPart right wrong fails (start n) (start (n + 1)) part =
    subst (IsPart right wrong fails (start n) (start (n + 1))) here (h n part (omega (arith, whole))) in
    subst (λ (r : Result (Tried W) E). IfErr r fails) err answer.1

pub clean_more : {W : Type 0} (right : ℕ → Bool → Type 0) (wrong : ℕ → W → Type 0) (from to end cut more : ℕ) (tried : Tried W) →
    from ≤ to → to ≤ end → AreRight right (range_with_len from (to - from)) cut → IsAnswerFrom right wrong to end tried → tried ≡ Clean more →
    AreRight right (range_with_len from (end - from)) (cut + more)
clean_more right wrong from to end cut more tried h k before answer is =
    right_range right from to end cut more h k before (clean_of right wrong to end tried more is answer)

-- the parts so far, and one more
pub part_more : {W E : Type 0} (right : ℕ → Bool → Type 0) (wrong : ℕ → W → Type 0) (fails : E → Type 0) (from count size cut more : ℕ)
    (all before after : List (Result (Tried W) E)) (part : Result (Tried W) E) (tried : Tried W) → from ≤ count →
    AreParts right wrong fails (part_start from count size) all → all ≡ before ++ part ∷ after → part ≡ Ok tried → tried ≡ Clean more →
    AreRight right (range_with_len from (part_start from count size (length before) - from)) cut →
    AreRight right (range_with_len from (part_start from count size (length before + 1) - from)) (cut + more)
part_more right wrong fails from count size cut more all before after part tried within parts is ok clean rights =
    let n = length before in
    let zero = start_zero from count size within in
    let least = start_less from count size 0 n (omega arith) in
    clean_more right wrong from (part_start from count size n) (part_start from count size (n + 1)) cut more tried (omega (arith, zero, least))
    (start_less from count size n (n + 1) (omega arith)) rights
    (part_at right wrong fails (part_start from count size) all before after part tried parts is ok) clean

pub part_wrong : {W E : Type 0} (right : ℕ → Bool → Type 0) (wrong : ℕ → W → Type 0) (fails : E → Type 0) (from count size cut place : ℕ) (what : W)
    (all before after : List (Result (Tried W) E)) (part : Result (Tried W) E) (tried : Tried W) → from ≤ count →
    AreParts right wrong fails (part_start from count size) all → all ≡ before ++ part ∷ after → part ≡ Ok tried → tried ≡ Wrong place what →
    AreRight right (range_with_len from (part_start from count size (length before) - from)) cut →
    IsFirstFrom right wrong from (part_start from count size (length all)) place what
part_wrong right wrong fails from count size cut place what all before after part tried within parts is ok found rights =
    let n = length before in
    let long = ap length is ∙ length-append before (part ∷ after) in
    let zero = start_zero from count size within in
    let least = start_less from count size 0 n (omega arith) in
    first_behind right wrong from (part_start from count size n) (part_start from count size (n + 1)) (part_start from count size (length all)) cut place what
    (omega (arith, zero, least)) (start_less from count size (n + 1) (length all) (omega (arith, long))) rights
    (first_in right wrong (part_start from count size n) (part_start from count size (n + 1)) tried place what found
    (part_at right wrong fails (part_start from count size) all before after part tried parts is ok))

-- all trials below a number, and those of one more round
pub round_more : {W : Type 0} (right : ℕ → Bool → Type 0) (wrong : ℕ → W → Type 0) (from count size parts cut more : ℕ) (tried : Tried W) →
    from ≤ count → AreRight right (range_with_len 0 from) cut → IsAnswerFrom right wrong from (part_start from count size parts) tried →
    tried ≡ Clean more → AreRight right (range_with_len 0 (part_start from count size parts - 0)) (cut + more)
round_more right wrong from count size parts cut more tried within before answer is =
    let zero = start_zero from count size within in
    let least = start_less from count size 0 parts (omega arith) in
    let all : from ≡ from - 0 = omega arith in
    clean_more right wrong 0 from (part_start from count size parts) cut more tried (omega arith) (omega (arith, zero, least))
    (subst (λ n. AreRight right (range_with_len 0 n) cut) all before) answer is
