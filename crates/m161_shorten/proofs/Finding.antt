use Rattle.std.proofs.Common.{◌≡◌, ◌≢◌, ◌∙◌, refl, sym, ap, ℕ, suc, ◌+◌, ◌<◌, ◌≤◌, Bool, true, false, cond, eqb, eqb-true, eq-eqb, ne_eqb, List, [], ◌∷◌, length, get_or, drop, drop-cons, length-drop, add-one, arith}
use Rattle.std.proofs.lemmas.List.{drop_all}
use Rattle.std.specs.Prelude.{Option, None, Some}
use Rattle.m161_machine.specs.declared.event.Event.{Event}
use Rattle.m161_machine.specs.declared.event.Event.TheVariants as events
use Rattle.m161_shorten.specs.helpers.Ranges.{find_step, from_before, one_more}

-- The search for a Step, place by place.

abbrev pub SoFar : ℕ → List Event → ℕ → Type 0
SoFar p es k = find_step p es ≡ from_before k (find_step p (drop k es))

pub none_so_far : (p : ℕ) (es : List Event) → SoFar p es 0
none_so_far p es = by (find_step p es)
  where
    by : (o : Option ℕ) → o ≡ from_before 0 o
    by None = refl
    by (Some k) = let count : k ≡ 0 + k = omega arith in ap Some count

at_place : (p k : ℕ) (es : List Event) (e : Event) → k < length es → get_or es k (events.Step 0) ≡ e → find_step p (drop k es) ≡ find_step p (e ∷ drop (k + 1) es)
at_place p k es e within is =
    ap (find_step p) (drop-cons es k (events.Step 0) within)
    ∙ ap (λ x. find_step p (x ∷ drop (suc k) es)) is ∙ ap (λ n. find_step p (e ∷ drop n es)) (sym (add-one k))

-- it is here
pub found_here : (p q k : ℕ) (es : List Event) → SoFar p es k → k < length es → get_or es k (events.Step 0) ≡ events.Step q → p ≡ q → Some k ≡ find_step p es
found_here p q k es so_far within is same =
    let count : k ≡ k + 0 = omega arith in
    let here : find_step p (events.Step q ∷ drop (k + 1) es) ≡ Some 0 = ap (λ b. cond b (Some 0) (one_more (find_step p (drop (k + 1) es)))) (eq-eqb p q same) in
    sym (so_far ∙ ap (from_before k) (at_place p k es (events.Step q) within is ∙ here) ∙ ap Some (sym count))

one_more_before : (k : ℕ) (o : Option ℕ) → from_before k (one_more o) ≡ from_before (k + 1) o
one_more_before k None = refl
one_more_before k (Some j) = let count : k + suc j ≡ k + 1 + j = omega arith in ap Some count

-- it isn't here
pub not_here : (p q k : ℕ) (es : List Event) → SoFar p es k → k < length es → get_or es k (events.Step 0) ≡ events.Step q → p ≢ q → SoFar p es (k + 1)
not_here p q k es so_far within is other =
    let more : find_step p (events.Step q ∷ drop (k + 1) es) ≡ one_more (find_step p (drop (k + 1) es)) = ap (λ b. cond b (Some 0) (one_more (find_step p (drop (k + 1) es)))) (ne_eqb p q other) in
    so_far ∙ ap (from_before k) (at_place p k es (events.Step q) within is ∙ more) ∙ one_more_before k (find_step p (drop (k + 1) es))

-- another event comes first
other_first : (p : ℕ) (e : Event) (es : List Event) → ((q : ℕ) → e ≡ events.Step q → ⊥) → find_step p (e ∷ es) ≡ None
other_first p (events.Step q) es other = absurd (other q refl)
other_first p (events.Key byte) es other = refl
other_first p events.Done es other = refl

pub other_here : (p k : ℕ) (es : List Event) → SoFar p es k → k < length es → ((q : ℕ) → get_or es k (events.Step 0) ≡ events.Step q → ⊥) → None ≡ find_step p es
other_here p k es so_far within other =
    sym (so_far ∙ ap (from_before k) (at_place p k es (get_or es k (events.Step 0)) within refl ∙ other_first p _ (drop (k + 1) es) other))

-- it is nowhere
pub nowhere : (p k : ℕ) (es : List Event) → SoFar p es k → length es ≤ k → None ≡ find_step p es
nowhere p k es so_far behind = sym (so_far ∙ ap (λ xs. from_before k (find_step p xs)) (drop_all k es behind))

-- one place more
pub more_none : (o : Option ℕ) → one_more o ≡ None → o ≡ None
more_none None h = refl
more_none (Some k) h = cc

pub more_some : (o : Option ℕ) (k : ℕ) → one_more o ≡ Some k → (j : ℕ) × (o ≡ Some j) × (k ≡ suc j)
more_some None k h = cc
more_some (Some j) k h = (j, refl, cc)

-- what is found
pub found_step : (p : ℕ) (es : List Event) (k : ℕ) → find_step p es ≡ Some k → (rest : List Event) × (drop k es ≡ events.Step p ∷ rest)
found_step p [] k h = cc
found_step p (events.Key byte ∷ es) k h = cc
found_step p (events.Done ∷ es) k h = cc
found_step p (events.Step q ∷ es) k h = by (eqb p q) refl h (λ j found. found_step p es j found)
  where
    by : (t : Bool) → eqb p q ≡ t → cond t (Some 0) (one_more (find_step p es)) ≡ Some k →
        ((j : ℕ) → find_step p es ≡ Some j → (rest : List Event) × (drop j es ≡ events.Step p ∷ rest)) →
        (rest : List Event) × (drop k (events.Step q ∷ es) ≡ events.Step p ∷ rest)
    by true e found behind =
        let first : k ≡ 0 = cc in
        (es, ap (λ n. drop n (events.Step q ∷ es)) first ∙ ap (λ x. events.Step x ∷ es) (sym (eqb-true p q e)))
    by false e found behind =
        let more = more_some (find_step p es) k found in
        let at = behind more.0 more.1 in
        (at.0, ap (λ n. drop n (events.Step q ∷ es)) more.2 ∙ at.1)

pub found_within : (p : ℕ) (es : List Event) (k : ℕ) → find_step p es ≡ Some k → k < length es
found_within p es k h =
    let at = found_step p es k h in
    let long = length-drop k es in
    let rest = ap length at.1 in
    omega (arith, long, rest)

-- the place counted from the start of the list
pub before_some : (b : ℕ) (o : Option ℕ) (n : ℕ) → from_before b o ≡ Some n → (k : ℕ) × (o ≡ Some k) × (n ≡ b + k)
before_some b None n h = cc
before_some b (Some k) n h = (k, refl, cc)

pub before_none : (b : ℕ) (o : Option ℕ) → from_before b o ≡ None → o ≡ None
before_none b None h = refl
before_none b (Some k) h = cc
