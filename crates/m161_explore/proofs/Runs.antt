use Rattle.std.proofs.Common.{◌≡◌, ℕ, ◌+◌, ◌*◌, ◌<◌, ◌≤◌, suc, zero, List, [], ◌∷◌, ◌++◌, length, refl, ap, sym, ◌∙◌, subst, arith, inl, inr, ◌⊎◌}
use Rattle.std.specs.Prelude.{None, Some, reverse}
use mathlib.Core.List.{reverse_aux}
use Rattle.std.proofs.lemmas.Grind.{reverse_onto}
use Rattle.std.proofs.lemmas.List.{reverse-append, reverse-reverse}
use Rattle.std.proofs.lemmas.Bool.{cases_order}
use Rattle.m161_explore.specs.declared.graph.Node.{Node}
use Rattle.m161_explore.specs.Rules.{Rules}
use Rattle.m161_explore.specs.Lists.{ComesBefore, HasStop, HasVerdict, IsFollowed, Leads}
use Rattle.m161_explore.specs.Answers.{IsJudged}
use Rattle.m161_explore.specs.Views.{view_at}
use Rattle.m161_explore.specs.Search.{Searched, IsMade, IsClear, IsKnown, parent_at, event_at, found_at, time_of}
use Rattle.m161_explore.specs.helpers.Trails.{IsTrail}
use Rattle.m161_explore.proofs.Order.{rank, rank_from, rank-turned, rank-before, times_less, times_le, AreBelow}
use Rattle.m161_explore.proofs.Laws.{Laws}

-- as `Leads`, the last event first
abbrev pub LeadsBack : {S V R : Type 0} → Rules S V R → S → List ℕ → S → Type 0
LeadsBack r s [] t = t ≡ s
LeadsBack {S} r s (e ∷ es) t = (u : S) × LeadsBack r s es u × (e < r.width) × (r.next u e ≡ Some t)

pub turned : {S V R : Type 0} (r : Rules S V R) (s t : S) (es acc : List ℕ) (u : S) → LeadsBack r s acc u → Leads r u es t → LeadsBack r s (reverse_aux es acc) t
turned {S} r s t [] acc u b h =
    let P : S → Type 0 = λ x. LeadsBack r s acc x in subst P (sym h) b
turned r s t (e ∷ es) acc u b h = turned r s t es (e ∷ acc) h.0 (u, b, h.1, h.2) h.3

pub turned_back : {S V R : Type 0} (r : Rules S V R) (s t u : S) (es acc : List ℕ) → LeadsBack r s es u → Leads r u acc t → Leads r s (reverse_aux es acc) t
turned_back {S} r s t u [] acc b h = let P : S → Type 0 = λ x. Leads r x acc t in subst P b h
turned_back r s t u (e ∷ es) acc b h = turned_back r s t b.0 es (e ∷ acc) b.1 (u, b.2, b.3, h)

pub below : {S V R : Type 0} (r : Rules S V R) (s t : S) (es : List ℕ) → Leads r s es t → AreBelow r.width es
below r s t [] h = tt
below r s t (e ∷ es) h = (h.1, below r h.0 t es h.3)

pub below_onto : (n : ℕ) (es acc : List ℕ) → AreBelow n es → AreBelow n acc → AreBelow n (reverse_aux es acc)
below_onto n [] acc h k = k
below_onto n (e ∷ es) acc h k = below_onto n es (e ∷ acc) h.1 (h.0, k)

pub below_turned : (n : ℕ) (es : List ℕ) → AreBelow n es → AreBelow n (reverse es)
below_turned n es h = below_onto n es [] h tt

pub below_push : (n : ℕ) (es : List ℕ) (e : ℕ) → AreBelow n es → e < n → AreBelow n (es ++ e ∷ [])
below_push n [] e h l = (l, tt)
below_push n (f ∷ es) e h l = (h.0, below_push n es e h.1 l)

pub reverse_push : (es : List ℕ) (e : ℕ) → reverse (es ++ e ∷ []) ≡ e ∷ reverse es
reverse_push es e = reverse-append es (e ∷ [])

-- each state has a trail
pub has_trail : {S V R : Type 0} (r : Rules S V R) (is_valid : S → Type 0) (keys : List (List ℕ)) (nodes : List Node) (now : ℕ) → Searched r is_valid keys nodes now →
    (fuel j : ℕ) → j < fuel → j < length keys → (es : List ℕ) × IsTrail nodes j es
has_trail r is_valid keys nodes now s zero j f h = absurd (omega arith)
has_trail r is_valid keys nodes now s (suc fuel) zero f h = ([], refl)
has_trail r is_valid keys nodes now s (suc fuel) (suc j) f h =
    let m : IsMade r is_valid keys nodes (suc j) = s.made (suc j) (omega arith) h in
    let p : parent_at nodes (suc j) < suc j = m.earlier in
    let rest = has_trail r is_valid keys nodes now s fuel (parent_at nodes (suc j)) (omega arith) (omega arith) in
    (event_at nodes (suc j) ∷ rest.0, (omega arith, omega (arith, s.sizes), refl, rest.1))

-- a trail leads to a state with the code that is kept
pub trail_leads : {S V R : Type 0} (r : Rules S V R) (is_valid : S → Type 0) (keys : List (List ℕ)) (nodes : List Node) (now : ℕ) → Laws r is_valid → Searched r is_valid keys nodes now →
    (es : List ℕ) (j : ℕ) → IsTrail nodes j es → (t : S) × LeadsBack r r.start es t × is_valid t × (r.view t ≡ view_at keys j)
trail_leads r is_valid keys nodes now laws s [] j h =
    (r.start, refl, laws.start, sym s.first ∙ ap (λ x. view_at keys x) (sym h))
trail_leads r is_valid keys nodes now laws s (e ∷ es) j h =
    let m : IsMade r is_valid keys nodes j = s.made j h.0 (omega (arith, h.1, s.sizes)) in
    let before = trail_leads r is_valid keys nodes now laws s es (parent_at nodes j) h.3 in
    let made = m.made before.0 before.2 before.3 in
    let is : r.next before.0 e ≡ Some made.0 = ap (λ x. r.next before.0 x) (sym h.2) ∙ made.1 in
    (made.0, (before.0, before.1, omega (arith, h.2, m.event), is), laws.next before.0 made.0 e before.2 is, made.2)

-- the events of a trail are below the width
pub trail_below : {S V R : Type 0} (r : Rules S V R) (is_valid : S → Type 0) (keys : List (List ℕ)) (nodes : List Node) (now : ℕ) → Laws r is_valid → Searched r is_valid keys nodes now →
    (es : List ℕ) (j : ℕ) → IsTrail nodes j es → AreBelow r.width es
trail_below r is_valid keys nodes now laws s [] j h = tt
trail_below r is_valid keys nodes now laws s (e ∷ es) j h =
    let m : IsMade r is_valid keys nodes j = s.made j h.0 (omega (arith, h.1, s.sizes)) in
    (omega (arith, h.2, m.event), trail_below r is_valid keys nodes now laws s es (parent_at nodes j) h.3)

-- trails are in the order of their states
pub record AreOrdered (n : ℕ) (j k : ℕ) (es fs : List ℕ) : Type 0 where
  pub less : j < k → rank n es < rank n fs
  pub same : j ≡ k → rank n es ≡ rank n fs

-- an earlier time, in parts
pub time_parts : (n a b c d : ℕ) → b < n → d < n → n * a + b < n * c + d → (a < c) ⊎ ((a ≡ c) × (b < d))
time_parts n a b c d hb hd h = elim (cases_order a c) [
  | inl k ↦ inr (k, (let e : n * a ≡ n * c = ap (λ x. n * x) k in omega arith))
  | inr k ↦ elim k [
    | inl m ↦ inl m
    | inr m ↦ absurd (omega (arith, times_less n c a d m hd))
  ]
]

pub are_ordered : {S V R : Type 0} (r : Rules S V R) (is_valid : S → Type 0) (keys : List (List ℕ)) (nodes : List Node) (now : ℕ) → Searched r is_valid keys nodes now →
    (es fs : List ℕ) (j k : ℕ) → IsTrail nodes j es → IsTrail nodes k fs → AreOrdered r.width j k es fs
are_ordered r is_valid keys nodes now s [] [] j k h i =
    record { less = λ l. absurd (omega arith); same = λ _. refl }
are_ordered r is_valid keys nodes now s [] (f ∷ fs) j k h i =
    record { less = λ l. omega arith; same = λ e. absurd (omega arith) }
are_ordered r is_valid keys nodes now s (e ∷ es) [] j k h i =
    record { less = λ l. absurd (omega arith); same = λ e. absurd (omega arith) }
are_ordered r is_valid keys nodes now s (e ∷ es) (f ∷ fs) j k h i =
    let below = are_ordered r is_valid keys nodes now s es fs (parent_at nodes j) (parent_at nodes k) h.3 i.3 in
    let mj : IsMade r is_valid keys nodes j = s.made j h.0 (omega (arith, h.1, s.sizes)) in
    let mk : IsMade r is_valid keys nodes k = s.made k i.0 (omega (arith, i.1, s.sizes)) in
    record {
      less = λ l.
          let t : found_at r.width nodes j < found_at r.width nodes k = s.ordered j k h.0 l (omega (arith, i.1, s.sizes)) in
          elim (time_parts r.width (parent_at nodes j) (event_at nodes j) (parent_at nodes k) (event_at nodes k) mj.event mk.event t) [
            | inl m ↦ omega (arith, h.2, i.2, mj.event, times_less r.width (rank r.width es) (rank r.width fs) (event_at nodes j) (below.less m) mj.event)
            | inr m ↦ omega (arith, h.2, i.2, m.1, ap (λ x. r.width * x) (below.same m.0))
          ];
      same = λ l.
          let p : parent_at nodes j ≡ parent_at nodes k = ap (λ x. parent_at nodes x) l in
          let q : event_at nodes j ≡ event_at nodes k = ap (λ x. event_at nodes x) l in
          omega (arith, h.2, i.2, ap (λ x. r.width * x) (below.same p), q);
    }

-- a state is alike to one that was found, by events that come no later
pub record IsCovered {S V R : Type 0} (r : Rules S V R) (is_valid : S → Type 0) (keys : List (List ℕ)) (nodes : List Node) (es : List ℕ) (t : S) : Type 0 where
  pub valid : is_valid t
  pub place : ℕ
  pub within : place < length keys
  pub same : r.view t ≡ view_at keys place
  pub first : (fs : List ℕ) → IsTrail nodes place fs → rank r.width fs ≤ rank r.width es

-- the lists that are considered: with a list its front, and the last event of each was tried
pub record IsTried (n : ℕ) (nodes : List Node) (count now : ℕ) (P : List ℕ → Type 0) : Type 0 where
  pub front : (e : ℕ) (es : List ℕ) → e < n → P (e ∷ es) → P es
  pub tried : (e : ℕ) (es fs : List ℕ) (j : ℕ) → e < n → P (e ∷ es) → j < count → IsTrail nodes j fs → rank n fs ≤ rank n es → time_of n j e < now

-- what was found by no later time is first by no later events
pub first_by : {S V R : Type 0} (r : Rules S V R) (is_valid : S → Type 0) (keys : List (List ℕ)) (nodes : List Node) (now : ℕ) → Searched r is_valid keys nodes now →
    (e : ℕ) (es trail : List ℕ) (i j : ℕ) → e < r.width → IsTrail nodes i trail → rank r.width trail ≤ rank r.width es →
    (0 < j → found_at r.width nodes j ≤ time_of r.width i e) →
    (fs : List ℕ) → IsTrail nodes j fs → rank r.width fs ≤ rank r.width (e ∷ es)
first_by r is_valid keys nodes now s e es trail i j w t before by [] h = omega arith
first_by r is_valid keys nodes now s e es trail i j w t before by (f ∷ fs) h =
    let mj : IsMade r is_valid keys nodes j = s.made j h.0 (omega (arith, h.1, s.sizes)) in
    let order : AreOrdered r.width (parent_at nodes j) i fs trail = are_ordered r is_valid keys nodes now s fs trail (parent_at nodes j) i h.3 t in
    let k : time_of r.width (parent_at nodes j) (event_at nodes j) ≤ time_of r.width i e = by h.0 in
    elim (cases_order (parent_at nodes j) i) [
      | inl m ↦ omega (arith, h.2, k, ap (λ x. r.width * x) m, ap (λ x. r.width * x) (order.same m), times_le r.width (rank r.width trail) (rank r.width es) before)
      | inr m ↦ elim m [
        | inl l ↦ omega (arith, h.2, mj.event, times_less r.width (rank r.width fs) (rank r.width es) (event_at nodes j) (omega (arith, order.less l)) mj.event)
        | inr l ↦ absurd (omega (arith, times_less r.width i (parent_at nodes j) e l w))
      ]
    ]

pub is_covered : {S V R : Type 0} (r : Rules S V R) (is_valid : S → Type 0) (keys : List (List ℕ)) (nodes : List Node) (now : ℕ) → Laws r is_valid → Searched r is_valid keys nodes now →
    (P : List ℕ → Type 0) → IsTried r.width nodes (length keys) now P →
    (es : List ℕ) (t : S) → P es → LeadsBack r r.start es t → IsCovered r is_valid keys nodes es t
is_covered {S} r is_valid keys nodes now laws s P tried [] t p h = record {
  valid = subst is_valid (sym h) laws.start;
  place = 0;
  within = s.some;
  same = ap (λ x. r.view x) h ∙ sym s.first;
  first = λ fs k. omega (arith, (are_ordered r is_valid keys nodes now s fs [] 0 0 k refl).same refl);
}
is_covered {S} r is_valid keys nodes now laws s P tried (e ∷ es) t p h =
    let c : IsCovered r is_valid keys nodes es h.0 =
    is_covered r is_valid keys nodes now laws s P tried es h.0 (tried.front e es h.2 p) h.1 in
    let trail = has_trail r is_valid keys nodes now s (suc c.place) c.place (omega arith) c.within in
    let before : rank r.width trail.0 ≤ rank r.width es = c.first trail.0 trail.1 in
    let found : IsKnown r keys nodes (time_of r.width c.place e) (r.view t) =
    s.closed c.place e h.0 t c.within h.2
    (tried.tried e es trail.0 c.place h.2 p c.within trail.1 before) c.valid c.same h.3 in
    record {
      valid = laws.next h.0 t e c.valid h.3;
      place = found.0;
      within = found.1;
      same = found.2;
      first = first_by r is_valid keys nodes now s e es trail.0 c.place found.0 h.2 trail.1 before found.3;
    }

-- where the last states were tried with all events, each list was
pub all_tried : (n : ℕ) (nodes : List Node) (count now : ℕ) → n * count ≤ now → IsTried n nodes count now (λ es. Unit {0})
all_tried n nodes count now h = record {
  front = λ e es l p. tt;
  tried = λ e es fs j l p k t b. omega (arith, times_less n j count e k l);
}

-- the lists before the one that is tried now
pub before_tried : {S V R : Type 0} (r : Rules S V R) (is_valid : S → Type 0) (keys : List (List ℕ)) (nodes : List Node) (i e : ℕ) (trail : List ℕ) → e < r.width → IsTrail nodes i trail →
    Searched r is_valid keys nodes (time_of r.width i e) →
    IsTried r.width nodes (length keys) (time_of r.width i e) (λ es. rank r.width es < rank r.width (e ∷ trail))
before_tried r is_valid keys nodes i e trail w t s = record {
  front = λ f es l p. omega (arith, p, times_le (rank r.width es) 1 r.width (omega arith));
  tried = λ f es fs j l p k u b.
      let order : AreOrdered r.width j i fs trail = are_ordered r is_valid keys nodes (time_of r.width i e) s fs trail j i u t in
      let order2 : AreOrdered r.width i j trail fs = are_ordered r is_valid keys nodes (time_of r.width i e) s trail fs i j t u in
      elim (cases_order j i) [
        | inl m ↦ omega (arith, p, ap (λ x. r.width * x) m, ap (λ x. r.width * x) (order.same m), times_le r.width (rank r.width fs) (rank r.width es) b)
        | inr m ↦ elim m [
          | inl x ↦ omega (arith, times_less r.width j i f x l)
          | inr x ↦ absurd (omega (arith, p, times_less r.width (rank r.width trail) (rank r.width es) e (omega (arith, order2.less x, b)) w))
        ]
      ];
}

-- the rank of a list is that of it turned round
pub rank_turned_less : (n : ℕ) (es fs : List ℕ) → rank_from n 0 es < rank_from n 0 (reverse fs) → rank n (reverse es) < rank n fs
rank_turned_less n es fs h =
    omega (arith, rank-turned n es [], rank-turned n (reverse fs) [], ap (λ x. rank n x) (reverse-reverse fs))

-- a list and an event behind it, turned round
pub judged_turned : {S V R : Type 0} (r : Rules S V R) (es : List ℕ) (s : S) (e : ℕ) (f : IsFollowed r es s e) → reverse es ≡ e ∷ reverse f.before
judged_turned r es s e f = ap (λ x. reverse x) f.is ∙ reverse_push f.before e

-- the last event of a list was tried and is clear, where the list is one of those that are considered
pub last_clear : {S V R : Type 0} (r : Rules S V R) (is_valid : S → Type 0) (keys : List (List ℕ)) (nodes : List Node) (now : ℕ) → Laws r is_valid → Searched r is_valid keys nodes now →
    (P : List ℕ → Type 0) → IsTried r.width nodes (length keys) now P →
    (es : List ℕ) (s : S) (last : ℕ) → P (reverse es) → IsFollowed r es s last → IsClear r s last
last_clear {S} r is_valid keys nodes now laws searched P tried es s last p f =
    let q : P (last ∷ reverse f.before) = subst P (judged_turned r es s last f) p in
    let c : IsCovered r is_valid keys nodes (reverse f.before) s =
    is_covered r is_valid keys nodes now laws searched P tried (reverse f.before) s (tried.front last (reverse f.before) f.event q)
    (turned r r.start s f.before [] r.start refl f.leads) in
    let trail = has_trail r is_valid keys nodes now searched (suc c.place) c.place (omega arith) c.within in
    searched.clear c.place last s c.within f.event
    (tried.tried last (reverse f.before) trail.0 c.place f.event q c.within trail.1 (c.first trail.0 trail.1)) c.valid c.same

-- a list whose last event is clear has no verdict
pub clear_not_judged : {S V R : Type 0} (r : Rules S V R) (es : List ℕ) (what : V) (v : HasVerdict r es what) → IsClear r v.from v.last → ⊥
clear_not_judged r es what v clear =
    let no : Some what ≡ None = sym v.verdict ∙ clear.1 v.to v.accepted in absurd (cc)

-- nor does the system stop at it
pub clear_not_stopped : {S V R : Type 0} (r : Rules S V R) (es : List ℕ) (reason : R) (h : HasStop r es reason) → IsClear r h.from h.last → ⊥
clear_not_stopped r es reason h clear =
    let no : Some reason ≡ None = sym h.stop ∙ clear.0 in absurd (cc)

-- no list has a verdict, once all events of all states were tried
pub none_judged : {S V R : Type 0} (r : Rules S V R) (is_valid : S → Type 0) (keys : List (List ℕ)) (nodes : List Node) (now : ℕ) → Laws r is_valid → Searched r is_valid keys nodes now →
    r.width * length keys ≤ now → (es : List ℕ) → IsJudged r es → ⊥
none_judged r is_valid keys nodes now laws s h es judged =
    let v : HasVerdict r es judged.0 = judged.1 in
    clear_not_judged r es judged.0 v
    (last_clear r is_valid keys nodes now laws s (λ es. Unit {0}) (all_tried r.width nodes (length keys) now h) es v.from v.last tt v.followed)

-- and the system stops at none
pub none_stopped : {S V R : Type 0} (r : Rules S V R) (is_valid : S → Type 0) (keys : List (List ℕ)) (nodes : List Node) (now : ℕ) → Laws r is_valid → Searched r is_valid keys nodes now →
    r.width * length keys ≤ now → (es : List ℕ) (reason : R) → HasStop r es reason → ⊥
none_stopped r is_valid keys nodes now laws s h es reason stop =
    clear_not_stopped r es reason stop
    (last_clear r is_valid keys nodes now laws s (λ es. Unit {0}) (all_tried r.width nodes (length keys) now h) es stop.from stop.last tt stop.followed)

-- the events of a list that an event follows are below the width
pub followed_below : {S V R : Type 0} (r : Rules S V R) (es : List ℕ) (s : S) (e : ℕ) → IsFollowed r es s e → AreBelow r.width es
followed_below r es s e f =
    let P : List ℕ → Type 0 = λ x. AreBelow r.width x in
    subst P (sym f.is) (below_push r.width f.before e (below r r.start s f.before f.leads) f.event)

-- no list before the one that is tried now has a verdict
pub none_judged_before : {S V R : Type 0} (r : Rules S V R) (is_valid : S → Type 0) (keys : List (List ℕ)) (nodes : List Node) (i e : ℕ) (trail : List ℕ) → Laws r is_valid →
    e < r.width → IsTrail nodes i trail → i < length keys → Searched r is_valid keys nodes (time_of r.width i e) →
    (es : List ℕ) → IsJudged r es → ComesBefore es (reverse (e ∷ trail)) → ⊥
none_judged_before r is_valid keys nodes i e trail laws w h within searched es judged before =
    let v : HasVerdict r es judged.0 = judged.1 in
    let f : IsFollowed r es v.from v.last = v.followed in
    let now = time_of r.width i e in
    let tail = trail_below r is_valid keys nodes now laws searched trail i h in
    let b = rank-before r.width es (reverse (e ∷ trail)) (followed_below r es v.from v.last f) (below_turned r.width (e ∷ trail) (w, tail)) before in
    let lower : rank r.width (reverse es) < rank r.width (e ∷ trail) = rank_turned_less r.width es (e ∷ trail) b in
    clear_not_judged r es judged.0 v
    (last_clear r is_valid keys nodes now laws searched (λ es. rank r.width es < rank r.width (e ∷ trail))
    (before_tried r is_valid keys nodes i e trail w h searched) es v.from v.last lower v.followed)

-- the trail of a state, and an event behind it, as a list
pub followed : {S V R : Type 0} (r : Rules S V R) (is_valid : S → Type 0) (keys : List (List ℕ)) (nodes : List Node) (i e now : ℕ) (trail : List ℕ) → Laws r is_valid →
    e < r.width → IsTrail nodes i trail → Searched r is_valid keys nodes now →
    (s : S) × IsFollowed r (reverse (e ∷ trail)) s e × is_valid s × (r.view s ≡ view_at keys i)
followed r is_valid keys nodes i e now trail laws w h searched =
    let from = trail_leads r is_valid keys nodes now laws searched trail i h in (
      from.0,
      record {
        before = reverse trail;
        is = reverse_onto trail e [];
        leads = turned_back r r.start from.0 from.0 trail [] from.1 refl;
        event = w;
      },
      from.2,
      from.3,
    )
