use Rattle.std.proofs.Common.{◌≡◌, ℕ, ◌+◌, ◌*◌, ◌<◌, ◌≤◌, suc, List, [], ◌∷◌, ◌++◌, length, refl, ap, sym, ◌∙◌, arith, inl, inr, ◌⊎◌}
use Rattle.std.specs.Prelude.{reverse}
use Rattle.std.proofs.lemmas.Bool.{cases_order}
use Rattle.std.proofs.lemmas.List.{get_or_append_left, get_or_push, length-reverse, length_push, reverse-reverse}
use Rattle.m161_explore.specs.declared.graph.Node.{Node}
use Rattle.m161_explore.specs.Rules.{Rules}
use Rattle.m161_explore.specs.Lists.{ComesBefore, IsLess, Leads}
use Rattle.m161_explore.specs.Answers.{IsAny}
use Rattle.m161_explore.specs.Views.{AreAll, AreDifferent, HaveFewViews, HaveMoreViews, HaveViews, view_at}
use Rattle.m161_explore.specs.Search.{IsMade, Searched, event_at, found_at, parent_at, time_of}
use Rattle.m161_explore.specs.helpers.Trails.{IsTrail}
use Rattle.m161_explore.proofs.Laws.{Laws}
use Rattle.m161_explore.proofs.Order.{AreBelow, rank, rank-before, rank-turned, rank_from, times_less}
use Rattle.m161_explore.proofs.Runs.{AreOrdered, all_tried, are_ordered, before_tried, below, below_turned, has_trail, is_covered, rank_turned_less, time_parts, trail_below, trail_leads, turned, turned_back}
use Rattle.m161_explore.proofs.Steps.{split_place}

-- How many views there are.

-- of two lists of one length, one is less, or they are equal
less_cases : (es fs : List ℕ) → length es ≡ length fs → IsLess es fs ⊎ ((es ≡ fs) ⊎ IsLess fs es)
less_cases [] [] l = inr (inl refl)
less_cases [] (f ∷ fs) l = absurd (omega arith)
less_cases (e ∷ es) [] l = absurd (omega arith)
less_cases (e ∷ es) (f ∷ fs) l = elim (cases_order e f) [
  | inl m ↦ elim (less_cases es fs (omega arith)) [
    | inl k ↦ inl (inr (m, k))
    | inr k ↦ elim k [
      | inl n ↦ inr (inl (ap (λ x. x ∷ es) m ∙ ap (λ x. f ∷ x) n))
      | inr n ↦ inr (inr (inr (sym m, n)))
    ]
  ]
  | inr m ↦ elim m [
    | inl k ↦ inl (inl k)
    | inr k ↦ inr (inr (inl k))
  ]
]

-- of two lists, one comes first, or they are equal
before_cases : (es fs : List ℕ) → ComesBefore es fs ⊎ ((es ≡ fs) ⊎ ComesBefore fs es)
before_cases es fs = elim (cases_order (length es) (length fs)) [
  | inl l ↦ elim (less_cases es fs l) [
    | inl k ↦ inl (inr (l, k))
    | inr k ↦ elim k [
      | inl n ↦ inr (inl n)
      | inr n ↦ inr (inr (inr (sym l, n)))
    ]
  ]
  | inr l ↦ elim l [
    | inl k ↦ inl (inl k)
    | inr k ↦ inr (inr (inl k))
  ]
]

-- a list of lower rank comes first
before_rank : (n : ℕ) (es fs : List ℕ) → AreBelow n es → AreBelow n fs → rank_from n 0 es < rank_from n 0 fs → ComesBefore es fs
before_rank n es fs b c h = elim (before_cases es fs) [
  | inl k ↦ k
  | inr k ↦ elim k [
    | inl m ↦ absurd (omega (arith, h, ap (λ x. rank_from n 0 x) m))
    | inr m ↦ absurd (omega (arith, h, rank-before n fs es c b m))
  ]
]

before_length : (es fs : List ℕ) → ComesBefore es fs → length es ≤ length fs
before_length es fs (inl h) = omega arith
before_length es fs (inr h) = omega (arith, h.0)

-- the rank of a list that is turned round
turned_rank : (n : ℕ) (fs : List ℕ) → rank_from n 0 (reverse fs) ≡ rank n fs
turned_rank n fs = sym (rank-turned n (reverse fs) []) ∙ ap (λ x. rank n x) (reverse-reverse fs)

-- the trail of each state that was found has a lower rank than what is tried now
trail_lower : {S V R : Type 0} (r : Rules S V R) (is_valid : S → Type 0) (keys : List (List ℕ)) (nodes : List Node) (i e : ℕ) (trail : List ℕ) →
    e < r.width → IsTrail nodes i trail → Searched r is_valid keys nodes (time_of r.width i e) →
    (fs : List ℕ) (j : ℕ) → IsTrail nodes j fs → rank r.width fs < rank r.width (e ∷ trail)
trail_lower r is_valid keys nodes i e trail w h s [] j k = omega arith
trail_lower r is_valid keys nodes i e trail w h s (f ∷ fs) j k =
    let m : IsMade r is_valid keys nodes j = s.made j k.0 (omega (arith, k.1, s.sizes)) in
    let t : found_at r.width nodes j < time_of r.width i e = s.past j k.0 (omega (arith, k.1, s.sizes)) in
    let order : AreOrdered r.width (parent_at nodes j) i fs trail = are_ordered r is_valid keys nodes (time_of r.width i e) s fs trail (parent_at nodes j) i k.3 h in
    elim (time_parts r.width (parent_at nodes j) (event_at nodes j) i e m.event w t) [
      | inl l ↦ omega (arith, k.2, m.event, times_less r.width (rank r.width fs) (rank r.width trail) (event_at nodes j) (order.less l) m.event)
      | inr l ↦ omega (arith, k.2, l.1, ap (λ x. r.width * x) (order.same l.0))
    ]

-- the trail of each state that was found comes before what is tried now
trail_before : {S V R : Type 0} (r : Rules S V R) (is_valid : S → Type 0) (keys : List (List ℕ)) (nodes : List Node) (i e : ℕ) (trail : List ℕ) → Laws r is_valid →
    e < r.width → IsTrail nodes i trail → Searched r is_valid keys nodes (time_of r.width i e) →
    (fs : List ℕ) (j : ℕ) → IsTrail nodes j fs → ComesBefore (reverse fs) (reverse (e ∷ trail))
trail_before r is_valid keys nodes i e trail laws w h s fs j k =
    let now = time_of r.width i e in
    let a = trail_below r is_valid keys nodes now laws s fs j k in
    let b = trail_below r is_valid keys nodes now laws s trail i h in
    let l = trail_lower r is_valid keys nodes i e trail w h s fs j k in
    before_rank r.width (reverse fs) (reverse (e ∷ trail)) (below_turned r.width fs a) (below_turned r.width (e ∷ trail) (w, b))
    (omega (arith, l, turned_rank r.width fs, turned_rank r.width (e ∷ trail)))

-- the states that were found are those of lists that are so, where their trails are
differ : {S V R : Type 0} (r : Rules S V R) (is_valid : S → Type 0) (keys : List (List ℕ)) (nodes : List Node) (now : ℕ) (IsSo : List ℕ → Type 0) → Laws r is_valid →
    Searched r is_valid keys nodes now → ((fs : List ℕ) (j : ℕ) → IsTrail nodes j fs → IsSo (reverse fs)) → AreDifferent r IsSo keys
differ r is_valid keys nodes now IsSo laws s so = record {
  each = λ j h.
      let trail = has_trail r is_valid keys nodes now s (suc j) j (omega arith) h in
      let t = trail_leads r is_valid keys nodes now laws s trail.0 j trail.1 in
      (reverse trail.0, t.0, turned_back r r.start t.0 t.0 trail.0 [] t.1 refl, so trail.0 j trail.1, t.3);
  different = s.different;
}

pub count_all : {S V R : Type 0} (r : Rules S V R) (is_valid : S → Type 0) (keys : List (List ℕ)) (nodes : List Node) (now : ℕ) → Laws r is_valid →
    Searched r is_valid keys nodes now → r.width * length keys ≤ now → HaveViews r IsAny (length keys)
count_all r is_valid keys nodes now laws s h = (
  keys,
  differ r is_valid keys nodes now IsAny laws s (λ fs j k. tt),
  (λ es t leads so.
      let c = is_covered r is_valid keys nodes now laws s (λ es. Unit {0}) (all_tried r.width nodes (length keys) now h) (reverse es) t tt
      (turned r r.start t es [] r.start refl leads) in
      (c.place, c.within, c.same)),
  refl,
)

-- the lists before what is tried now lead to states that were found
pub all_before : {S V R : Type 0} (r : Rules S V R) (is_valid : S → Type 0) (keys : List (List ℕ)) (nodes : List Node) (i e : ℕ) (trail : List ℕ) → Laws r is_valid →
    e < r.width → IsTrail nodes i trail → Searched r is_valid keys nodes (time_of r.width i e) →
    AreAll r (λ es. ComesBefore es (reverse (e ∷ trail))) keys
all_before r is_valid keys nodes i e trail laws w h s es t leads before =
    let now = time_of r.width i e in
    let tail = trail_below r is_valid keys nodes now laws s trail i h in
    let b = rank-before r.width es (reverse (e ∷ trail)) (below r r.start t es leads) (below_turned r.width (e ∷ trail) (w, tail)) before in
    let lower : rank r.width (reverse es) < rank r.width (e ∷ trail) = rank_turned_less r.width es (e ∷ trail) b in
    let c = is_covered r is_valid keys nodes now laws s (λ es. rank r.width es < rank r.width (e ∷ trail))
    (before_tried r is_valid keys nodes i e trail w h s) (reverse es) t lower
    (turned r r.start t es [] r.start refl leads) in
    (c.place, c.within, c.same)

pub count_before : {S V R : Type 0} (r : Rules S V R) (is_valid : S → Type 0) (keys : List (List ℕ)) (nodes : List Node) (i e : ℕ) (trail : List ℕ) → Laws r is_valid →
    e < r.width → IsTrail nodes i trail → Searched r is_valid keys nodes (time_of r.width i e) →
    HaveViews r (λ es. ComesBefore es (reverse (e ∷ trail))) (length keys)
count_before r is_valid keys nodes i e trail laws w h s = (
  keys,
  differ r is_valid keys nodes (time_of r.width i e) (λ es. ComesBefore es (reverse (e ∷ trail))) laws s
      (λ fs j k. trail_before r is_valid keys nodes i e trail laws w h s fs j k),
  all_before r is_valid keys nodes i e trail laws w h s,
  refl,
)

-- a list no longer than the trail comes before what is tried now
pub shorter_before : (e : ℕ) (trail es : List ℕ) → length es ≤ length trail → ComesBefore es (reverse (e ∷ trail))
shorter_before e trail es h = inl (omega (arith, h, length-reverse (e ∷ trail)))

pub few_before : {S V R : Type 0} (r : Rules S V R) (is_valid : S → Type 0) (keys : List (List ℕ)) (nodes : List Node) (i e limit : ℕ) (trail : List ℕ) → Laws r is_valid →
    e < r.width → IsTrail nodes i trail → length keys ≤ limit → Searched r is_valid keys nodes (time_of r.width i e) →
    HaveFewViews r (λ es. length es ≤ length trail) limit
few_before r is_valid keys nodes i e limit trail laws w h few s = (
  keys,
  (λ es t leads short. all_before r is_valid keys nodes i e trail laws w h s es t leads (shorter_before e trail es short)),
  few,
)

-- a new view beside those that were found
pub more_before : {S V R : Type 0} (r : Rules S V R) (is_valid : S → Type 0) (keys : List (List ℕ)) (nodes : List Node) (i e limit : ℕ) (trail key : List ℕ) (t : S) → Laws r is_valid →
    e < r.width → IsTrail nodes i trail → limit ≤ length keys → Searched r is_valid keys nodes (time_of r.width i e) →
    Leads r r.start (reverse (e ∷ trail)) t → r.view t ≡ key → ((j : ℕ) → j < length keys → view_at keys j ≡ key → ⊥) →
    HaveMoreViews r (λ es. length es ≤ length trail + 1) limit
more_before r is_valid keys nodes i e limit trail key t laws w h many s leads is_key is_new =
    let old = differ r is_valid keys nodes (time_of r.width i e) (λ es. length es ≤ length trail + 1) laws s
    (λ fs j k. omega (arith, before_length (reverse fs) (reverse (e ∷ trail)) (trail_before r is_valid keys nodes i e trail laws w h s fs j k), length-reverse (e ∷ trail))) in
    let more : length (keys ++ key ∷ []) ≡ length keys + 1 = length_push keys key in
    let old_key : (j : ℕ) → j < length keys → view_at (keys ++ key ∷ []) j ≡ view_at keys j = λ j h. get_or_append_left keys (key ∷ []) [] j h in
    let new_key : view_at (keys ++ key ∷ []) (length keys) ≡ key = get_or_push keys key [] (length keys) refl in (
      keys ++ key ∷ [],
      record {
        each = λ j l. elim (split_place (length keys) j (length (keys ++ key ∷ [])) more l) [
          | inl m ↦ let x = old.each j m in (x.0, x.1, x.2, x.3, x.4 ∙ sym (old_key j m))
          | inr m ↦ (reverse (e ∷ trail), t, leads, omega (arith, length-reverse (e ∷ trail)), is_key ∙ sym new_key ∙ ap (λ x. view_at (keys ++ key ∷ []) x) (sym m))
        ];
        different = λ j k l m. elim (split_place (length keys) k (length (keys ++ key ∷ [])) more m) [
          | inl n ↦ λ q. s.different j k l n (sym (old_key j (omega arith)) ∙ q ∙ old_key k n)
          | inr n ↦ λ q. is_new j (omega arith) (sym (old_key j (omega arith)) ∙ q ∙ ap (λ x. view_at (keys ++ key ∷ []) x) n ∙ new_key)
        ];
      },
      omega (arith, more, many),
    )
