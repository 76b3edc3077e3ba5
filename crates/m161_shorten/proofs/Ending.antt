use Rattle.std.proofs.Common.{◌≡◌, ◌∙◌, ◌⊎◌, inl, inr, refl, sym, ap, subst, ℕ, zero, suc, ◌+◌, ◌<◌, ◌≤◌, Bool, true, false, eqb, ltb, List, [], ◌∷◌, length, take, arith}
use Rattle.std.proofs.lemmas.Bool.{eqb-false, eqb-true, ltb-false, ltb-true}
use Rattle.std.specs.Prelude.{Option, None, Some}
use Rattle.m161_machine.specs.declared.event.Event.{Event}
use Rattle.m161_shorten.specs.declared.judged.Judgement.{Judgement}
use Rattle.m161_shorten.specs.Blocks.{blocks}
use Rattle.m161_shorten.specs.Trials.{trials}
use Rattle.m161_shorten.specs.Law.{EndsWithOne}
use Rattle.m161_shorten.specs.Passes.{GoesOn, GoesTo, IsEnd, Place, Takes, after_trials, first_place}
use Rattle.m161_shorten.specs.Verdicts.{JudgesEach, Needs, NeedsNone}
use Rattle.m161_shorten.proofs.Measures.{lighter, turns, weight}

-- The passes end, by a judge that says one thing of each list.

-- some trial is taken, or none

one_more : {K : Type 0} (is_kind : K → Bool) (judges : List Event → Option (Judgement K) → Type 0) (t : List Event) (ts : List (List Event)) (verdict : Option (Judgement K)) → judges t verdict →
    ((taken : Option (List Event)) × (judged : ℕ) × Takes is_kind judges ts taken judged) → (taken : Option (List Event)) × (judged : ℕ) × Takes is_kind judges (t ∷ ts) taken judged
one_more is_kind judges t ts None said rest = (rest.0, rest.1 + 1, inr (rest.1, inl said, rest.2, refl))
one_more is_kind judges t ts (Some judged) said rest = by (is_kind judged.kind) refl
  where
    by : (b : Bool) → is_kind judged.kind ≡ b → (taken : Option (List Event)) × (k : ℕ) × Takes is_kind judges (t ∷ ts) taken k
    by true same = (Some (take judged.needs t), 1, inl (judged.needs, (judged.kind, said, same), refl, refl))
    by false differs = (rest.0, rest.1 + 1, inr (rest.1, inr (judged, said, differs), rest.2, refl))

some_takes : {K : Type 0} (is_kind : K → Bool) (judges : List Event → Option (Judgement K) → Type 0) → JudgesEach judges → (ts : List (List Event)) → (taken : Option (List Event)) × (judged : ℕ) × Takes is_kind judges ts taken judged
some_takes is_kind judges each [] = (None, 0, (refl, refl))
some_takes is_kind judges each (t ∷ ts) = one_more is_kind judges t ts (each t).0 (each t).1 (some_takes is_kind judges each ts)

-- and no other

one_said : {K : Type 0} (judges : List Event → Option (Judgement K) → Type 0) (es : List Event) (a b : Option (Judgement K)) → JudgesEach judges → judges es a → judges es b → a ≡ b
one_said judges es a b each said other = (each es).2 a said ∙ sym ((each es).2 b other)

one_need : {K : Type 0} (is_kind : K → Bool) (judges : List Event → Option (Judgement K) → Type 0) (es : List Event) (m n : ℕ) → JudgesEach judges → Needs is_kind judges es m → Needs is_kind judges es n → m ≡ n
one_need {K} is_kind judges es m n each (k, said, same) (l, other, alike) =
    let v : Judgement K = record { kind = k; needs = m } in
    let w : Judgement K = record { kind = l; needs = n } in
    let is : Some v ≡ Some w = one_said judges es (Some v) (Some w) each said other in
    let one : v ≡ w = cc in
    ap (λ (j : Judgement K). j.needs) one

never_both : {K : Type 0} (is_kind : K → Bool) (judges : List Event → Option (Judgement K) → Type 0) (es : List Event) (n : ℕ) → JudgesEach judges → Needs is_kind judges es n → NeedsNone is_kind judges es → ⊥
never_both is_kind judges es n each (k, said, same) (inl none) =
    let is = one_said judges es (Some (record { kind = k; needs = n })) None each said none in
    cc
never_both {K} is_kind judges es n each (k, said, same) (inr (other, says, differs)) =
    let v : Judgement K = record { kind = k; needs = n } in
    let is : Some v ≡ Some other = one_said judges es (Some v) (Some other) each said says in
    let one : v ≡ other = cc in
    let kinds : k ≡ other.kind = ap (λ (j : Judgement K). j.kind) one in
    let bad : true ≡ false = sym same ∙ ap is_kind kinds ∙ differs in
    cc

one_takes : {K : Type 0} (is_kind : K → Bool) (judges : List Event → Option (Judgement K) → Type 0) → JudgesEach judges → (ts : List (List Event)) (a b : Option (List Event)) (i j : ℕ) → Takes is_kind judges ts a i → Takes is_kind judges ts b j → (a ≡ b) × (i ≡ j)
one_takes is_kind judges each [] a b i j (none, zeros) (other, others) = (none ∙ sym other, zeros ∙ sym others)
one_takes is_kind judges each (t ∷ ts) a b i j (inl (m, needs, cut, one)) (inl (n, need, trunc, once)) =
    let same = one_need is_kind judges t m n each needs need in
    (cut ∙ ap (λ k. Some (take k t)) same ∙ sym trunc, one ∙ sym once)
one_takes is_kind judges each (t ∷ ts) a b i j (inl (m, needs, cut, one)) (inr (k, none, later, more)) = absurd (never_both is_kind judges t m each needs none)
one_takes is_kind judges each (t ∷ ts) a b i j (inr (k, none, later, more)) (inl (m, needs, cut, one)) = absurd (never_both is_kind judges t m each needs none)
one_takes is_kind judges each (t ∷ ts) a b i j (inr (k, none, later, more)) (inr (l, not, after, others)) =
    let same = one_takes is_kind judges each ts a b k l later after in
    (same.0, more ∙ ap (λ x. x + 1) same.1 ∙ sym others)

-- a place is the end, or there is a next one

some_next : {K : Type 0} (is_kind : K → Bool) (judges : List Event → Option (Judgement K) → Type 0) → JudgesEach judges → (s : Place) → IsEnd s ⊎ ((t : Place) × GoesTo is_kind judges s t)
unfolding GoesTo
some_next is_kind judges each s = by (eqb s.left 0) (ltb s.block (length (blocks s.events))) s.taken refl refl refl
  where
    by : (a b c : Bool) → eqb s.left 0 ≡ a → ltb s.block (length (blocks s.events)) ≡ b → s.taken ≡ c → IsEnd s ⊎ ((t : Place) × GoesTo is_kind judges s t)
    by true b c none block taken = inl (inl (eqb-true s.left 0 none))
    by false true c none block taken =
        let left = eqb-false s.left 0 none in
        let made = some_takes is_kind judges each (take s.left (trials s.block s.events)) in
        inr (after_trials made.0 made.1 s, (omega (arith, left), inl (ltb-true s.block (length (blocks s.events)) block, (made.0, made.1, made.2, refl))))
    by false false true none block taken =
        let left = eqb-false s.left 0 none in
        let behind = ltb-false s.block (length (blocks s.events)) block in
        inr (record s { block = 0; taken = false }, (omega (arith, left), inr (omega (arith, behind), taken, refl)))
    by false false false none block taken =
        let behind = ltb-false s.block (length (blocks s.events)) block in
        inl (inr (omega (arith, behind), taken))

one_next : {K : Type 0} (is_kind : K → Bool) (judges : List Event → Option (Judgement K) → Type 0) → JudgesEach judges → (s t u : Place) → GoesTo is_kind judges s t → GoesTo is_kind judges s u → u ≡ t
unfolding GoesTo
one_next is_kind judges each s t u (some, inl (block, (taken, j, takes, is))) (left, inl (within, (other, k, also, are))) =
    let same = one_takes is_kind judges each (take s.left (trials s.block s.events)) other taken k j also takes in
    are ∙ ap (λ x. after_trials x k s) same.0 ∙ ap (λ x. after_trials taken x s) same.1 ∙ sym is
one_next is_kind judges each s t u (some, inl (block, made)) (left, inr (behind, was, are)) = absurd (omega (arith, block, behind))
one_next is_kind judges each s t u (some, inr (behind, was, is)) (left, inl (block, made)) = absurd (omega (arith, block, behind))
one_next is_kind judges each s t u (some, inr (behind, was, is)) (left, inr (also, had, are)) = are ∙ sym is

none_next : {K : Type 0} (is_kind : K → Bool) (judges : List Event → Option (Judgement K) → Type 0) (s t : Place) → GoesTo is_kind judges s t → IsEnd s → ⊥
unfolding GoesTo
none_next is_kind judges s t (some, how) (inl none) = omega (arith, some, none)
none_next is_kind judges s t (some, inl (block, made)) (inr (behind, not)) = omega (arith, block, behind)
none_next is_kind judges s t (some, inr (behind, was, is)) (inr (also, not)) = cc

-- the passes end

Ends : {K : Type 0} (is_kind : K → Bool) (judges : List Event → Option (Judgement K) → Type 0) → Place → Type 0
Ends is_kind judges s = (n : ℕ) × (t : Place) × GoesOn is_kind judges n s t × IsEnd t

ends : {K : Type 0} (is_kind : K → Bool) (judges : List Event → Option (Judgement K) → Type 0) → JudgesEach judges → (most k : ℕ) (s : Place) → length s.events ≤ most → weight most s < k → Ends is_kind judges s
unfolding Ends
ends is_kind judges each most zero s few light = absurd (omega arith)
ends is_kind judges each most (suc k) s few light = by (some_next is_kind judges each s) (λ t few light. ends is_kind judges each most k t few light)
  where
    by : IsEnd s ⊎ ((t : Place) × GoesTo is_kind judges s t) → ((t : Place) → length t.events ≤ most → weight most t < k → Ends is_kind judges t) → Ends is_kind judges s
    by (inl end) rest = (0, s, refl, end)
    by (inr (t, next)) rest =
        let less = lighter (Needs is_kind judges) most s t few (turns is_kind judges s t next) in
        let later = rest t less.0 (omega (arith, light, less.1)) in
        (suc later.0, later.1, (t, next, later.2), later.3)

-- and in one place
one_end : {K : Type 0} (is_kind : K → Bool) (judges : List Event → Option (Judgement K) → Type 0) → JudgesEach judges → (m n : ℕ) (s t u : Place) → GoesOn is_kind judges m s t → IsEnd t → GoesOn is_kind judges n s u → IsEnd u → u ≡ t
one_end is_kind judges each zero zero s t u goes_t end_t goes_u end_u = goes_u ∙ sym goes_t
one_end is_kind judges each zero (suc n) s t u goes_t end_t goes_u end_u = absurd (none_next is_kind judges s goes_u.0 goes_u.1 (subst IsEnd goes_t end_t))
one_end is_kind judges each (suc m) zero s t u goes_t end_t goes_u end_u = absurd (none_next is_kind judges s goes_t.0 goes_t.1 (subst IsEnd goes_u end_u))
one_end is_kind judges each (suc m) (suc n) s t u goes_t end_t goes_u end_u =
    let same : goes_u.0 ≡ goes_t.0 = one_next is_kind judges each s goes_t.0 goes_u.0 goes_t.1 goes_u.1 in
    one_end is_kind judges each m n goes_t.0 t u goes_t.2 end_t (subst (λ x. GoesOn is_kind judges n x u) same goes_u.2) end_u

pub ends_with_one : {K : Type 0} (is_kind : K → Bool) (judges : List Event → Option (Judgement K) → Type 0) → JudgesEach judges → (es : List Event) → EndsWithOne is_kind judges es
unfolding Ends
ends_with_one is_kind judges each es =
    let end = ends is_kind judges each (length es) (suc (weight (length es) (first_place es))) (first_place es) (omega arith) (omega arith) in (
      end.1.events,
      record { places = end.0; last = end.1; goes_on = end.2; ends = end.3; events_are = refl },
      λ gs other. other.events_are ∙ ap (λ (s : Place). s.events) (one_end is_kind judges each end.0 other.places (first_place es) end.1 other.last end.2 end.3 other.goes_on other.ends),
    )
