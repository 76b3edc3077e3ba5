use Rattle.std.proofs.Common.{◌≡◌, ℕ, ◌+◌, ◌*◌, ◌<◌, List, [], ◌∷◌, ◌++◌, length, refl, ap, sym, ◌∙◌, subst, arith, inl, inr, ◌⊎◌}
use Rattle.std.specs.Prelude.{Option, Some, None, slice_index_or}
use Rattle.std.proofs.lemmas.Bool.{cases_order}
use Rattle.std.proofs.lemmas.List.{get_or_append_left, get_or_push, length_push}
use Rattle.m161_explore.specs.declared.graph.Node.{Node}
use Rattle.m161_explore.specs.Rules.{Rules}
use Rattle.m161_explore.specs.Views.{view_at}
use Rattle.m161_explore.specs.Search.{IsClear, IsMade, Searched, event_at, found_at, parent_at, root, time_of}
use Rattle.m161_explore.proofs.Order.{times_less}
use Rattle.m161_explore.proofs.Laws.{Laws, clear_alike}

-- a pair of a state and an event is tried at one time alone
pub time_cases : (n a b i e : ℕ) → b < n → e < n → n * a + b < n * i + e + 1 → (n * a + b < n * i + e) ⊎ ((a ≡ i) × (b ≡ e))
time_cases n a b i e hb he h = elim (cases_order a i) [
  | inl k ↦ elim (cases_order b e) [
    | inl m ↦ inr (k, m)
    | inr m ↦ inl (omega (arith, ap (λ x. n * x) k))
  ]
  | inr k ↦ elim k [
    | inl m ↦ inl (omega (arith, times_less n a i b m hb))
    | inr m ↦ absurd (omega (arith, times_less n i a e m he))
  ]
]

-- the event that was tried now leads nowhere or to a state that was found
abbrev pub Lands : {S V R : Type 0} → Rules S V R → List (List ℕ) → Option S → Type 0
Lands r keys None = Unit {0}
Lands r keys (Some u) = (j : ℕ) × (j < length keys) × (r.view u ≡ view_at keys j)

lands_at : {S V R : Type 0} (r : Rules S V R) (keys : List (List ℕ)) (o : Option S) (u : S) → o ≡ Some u → Lands r keys o → (j : ℕ) × (j < length keys) × (r.view u ≡ view_at keys j)
lands_at {S} r keys o u h l = let P : Option S → Type 0 = λ x. Lands r keys x in subst P h l

pub passes : {S V R : Type 0} (r : Rules S V R) (is_valid : S → Type 0) (keys : List (List ℕ)) (nodes : List Node) (i e : ℕ) (s : S) → Laws r is_valid →
    Searched r is_valid keys nodes (time_of r.width i e) → i < length keys → e < r.width →
    is_valid s → r.view s ≡ view_at keys i → IsClear r s e → Lands r keys (r.next s e) →
    Searched r is_valid keys nodes (time_of r.width i e + 1)
passes {S} r is_valid keys nodes i e s laws searched within w valid same clear lands = record {
  sizes = searched.sizes;
  some = searched.some;
  first = searched.first;
  held = searched.held;
  different = searched.different;
  clear = λ a b t ha hb before vt st.
      elim (time_cases r.width a b i e hb w before) [
        | inl m ↦ searched.clear a b t ha hb m vt st
        | inr m ↦
            let P : ℕ → Type 0 = λ x. IsClear r t x in
            let st2 : r.view s ≡ r.view t = same ∙ ap (λ x. view_at keys x) (sym m.0) ∙ sym st in
            subst P (sym m.1) (clear_alike r is_valid s t e laws valid vt st2 clear)
      ];
  made = searched.made;
  ordered = searched.ordered;
  closed = λ a b t u ha hb before vt st next.
      elim (time_cases r.width a b i e hb w before) [
        | inl m ↦ searched.closed a b t u ha hb m vt st next
        | inr m ↦
            let st2 : r.view t ≡ r.view s = st ∙ ap (λ x. view_at keys x) m.0 ∙ sym same in
            let next2 : r.next t e ≡ Some u = ap (λ x. r.next t x) (sym m.1) ∙ next in
            let stop : r.stop t e ≡ None = laws.stop t s e vt valid st2 ∙ clear.0 in
            let v = laws.step t s u e vt valid st2 stop next2 in
            let l = lands_at r keys (r.next s e) v.0 v.1 lands in
            (l.0, l.1, v.2 ∙ l.2, (λ pos. let p = searched.past l.0 pos l.1 in omega (arith, p, ap (λ x. r.width * x) m.0)))
      ];
  past = λ j pos h. omega (arith, searched.past j pos h);
}

-- a place in a list with one more element: an earlier one, or the last
pub split_place : (n j m : ℕ) → m ≡ n + 1 → j < m → (j < n) ⊎ (j ≡ n)
split_place n j m e h = elim (cases_order j n) [
  | inl k ↦ inr k
  | inr k ↦ elim k [ inl l ↦ inl l | inr l ↦ absurd (omega arith) ]
]

pub grows : {S V R : Type 0} (r : Rules S V R) (is_valid : S → Type 0) (keys : List (List ℕ)) (nodes : List Node) (i e : ℕ) (s u t : S) (key : List ℕ) (node : Node) → Laws r is_valid →
    Searched r is_valid keys nodes (time_of r.width i e) → i < length keys → e < r.width →
    is_valid s → r.view s ≡ view_at keys i → r.next s e ≡ Some u →
    is_valid t → r.view t ≡ r.view u → key ≡ r.view t → IsClear r s e →
    ((j : ℕ) → j < length keys → view_at keys j ≡ key → ⊥) →
    node.parent ≡ i → node.event ≡ e →
    Searched r is_valid (keys ++ key ∷ []) (nodes ++ node ∷ []) (time_of r.width i e + 1)
grows {S} r is_valid keys nodes i e s u t key node laws searched within w valid same next vt alike is_key clear is_new is_parent is_event =
    let n : ℕ = length keys in
    let keys2 : List (List ℕ) = keys ++ key ∷ [] in
    let nodes2 : List Node = nodes ++ node ∷ [] in
    let more : length keys2 ≡ n + 1 = length_push keys key in
    let old_key : (j : ℕ) → j < n → view_at keys2 j ≡ view_at keys j = λ j h. get_or_append_left keys (key ∷ []) [] j h in
    let new_key : view_at keys2 n ≡ key = get_or_push keys key [] n refl in
    let old_node : (j : ℕ) → j < n → slice_index_or nodes2 j root ≡ slice_index_or nodes j root =
    λ j h. get_or_append_left nodes (node ∷ []) root j (omega (arith, searched.sizes)) in
    let new_node : slice_index_or nodes2 n root ≡ node = get_or_push nodes node root n searched.sizes in
    let old_found : (j : ℕ) → j < n → found_at r.width nodes2 j ≡ found_at r.width nodes j =
    λ j h. ap (λ (x : Node). time_of r.width x.parent x.event) (old_node j h) in
    let new_found : found_at r.width nodes2 n ≡ time_of r.width i e =
    ap (λ (x : Node). time_of r.width x.parent x.event) new_node ∙ ap (λ x. time_of r.width x node.event) is_parent ∙ ap (λ x. time_of r.width i x) is_event in
    let parent_is : parent_at nodes2 n ≡ i = ap (λ (x : Node). x.parent) new_node ∙ is_parent in
    let event_is : event_at nodes2 n ≡ e = ap (λ (x : Node). x.event) new_node ∙ is_event in
    record {
      sizes = omega (arith, length_push nodes node, more, searched.sizes);
      some = omega (arith, more, searched.some);
      first = old_key 0 searched.some ∙ searched.first;
      held = λ j h. elim (split_place n j (length keys2) more h) [
        | inl l ↦ let x = searched.held j l in (x.0, x.1, x.2 ∙ sym (old_key j l))
        | inr l ↦ (t, vt, sym is_key ∙ sym new_key ∙ ap (λ x. view_at keys2 x) (sym l))
      ];
      different = λ j k l h. elim (split_place n k (length keys2) more h) [
        | inl m ↦ λ e. searched.different j k l m (sym (old_key j (omega arith)) ∙ e ∙ old_key k m)
        | inr m ↦ λ e. is_new j (omega arith) (sym (old_key j (omega arith)) ∙ e ∙ ap (λ x. view_at keys2 x) m ∙ new_key)
      ];
      clear = λ a b x ha hb before vx sx. elim (time_cases r.width a b i e hb w before) [
        | inl m ↦ elim (split_place n a (length keys2) more ha) [
          | inl l ↦ searched.clear a b x l hb m vx (sx ∙ old_key a l)
          | inr l ↦ absurd (omega (arith, times_less r.width i a e (omega arith) w, m))
        ]
        | inr m ↦
            let P : ℕ → Type 0 = λ z. IsClear r x z in
            let sx2 : r.view s ≡ r.view x = same ∙ sym (old_key i within) ∙ ap (λ z. view_at keys2 z) (sym m.0) ∙ sym sx in
            subst P (sym m.1) (clear_alike r is_valid s x e laws valid vx sx2 clear)
      ];
      made = λ j pos h. elim (split_place n j (length keys2) more h) [
        | inl l ↦
            let m : IsMade r is_valid keys nodes j = searched.made j pos l in
            let p : parent_at nodes2 j ≡ parent_at nodes j = ap (λ (x : Node). x.parent) (old_node j l) in
            let q : event_at nodes2 j ≡ event_at nodes j = ap (λ (x : Node). x.event) (old_node j l) in
            record {
              earlier = omega (arith, p, m.earlier);
              event = omega (arith, q, m.event);
              made = λ x v c.
                  let y = m.made x v (c ∙ ap (λ z. view_at keys2 z) p ∙ old_key (parent_at nodes j) (omega (arith, m.earlier))) in
                  (y.0, ap (λ z. r.next x z) q ∙ y.1, y.2 ∙ sym (old_key j l));
            }
        | inr l ↦
            let p : parent_at nodes2 j ≡ i = ap (λ x. parent_at nodes2 x) l ∙ parent_is in
            let q : event_at nodes2 j ≡ e = ap (λ x. event_at nodes2 x) l ∙ event_is in
            record {
              earlier = omega (arith, p, l);
              event = omega (arith, q);
              made = λ x v c.
                  let y = laws.step s x u e valid v (same ∙ sym (old_key i within) ∙ ap (λ z. view_at keys2 z) (sym p) ∙ sym c) clear.0 next in
                  (y.0, ap (λ z. r.next x z) q ∙ y.1, sym y.2 ∙ sym alike ∙ sym is_key ∙ sym new_key ∙ ap (λ z. view_at keys2 z) (sym l));
            }
      ];
      closed = λ a b x y ha hb before vx sx next_x.
          elim (time_cases r.width a b i e hb w before) [
            | inl m ↦ elim (split_place n a (length keys2) more ha) [
              | inl l ↦
                  let f = searched.closed a b x y l hb m vx (sx ∙ old_key a l) next_x in
                  (f.0, omega (arith, more, f.1), f.2 ∙ sym (old_key f.0 f.1), (λ pos. omega (arith, f.3 pos, old_found f.0 f.1)))
              | inr l ↦ absurd (omega (arith, times_less r.width i a e (omega arith) w, m))
            ]
            | inr m ↦
                let sx2 : r.view x ≡ r.view s = sx ∙ ap (λ z. view_at keys2 z) m.0 ∙ old_key i within ∙ sym same in
                let next2 : r.next x e ≡ Some y = ap (λ z. r.next x z) (sym m.1) ∙ next_x in
                let v = laws.step s x u e valid vx (sym sx2) clear.0 next in
                let y_is : Some v.0 ≡ Some y = sym v.1 ∙ next2 in
                let y_v : v.0 ≡ y = cc in
                (n, omega (arith, more), ap (λ z. r.view z) (sym y_v) ∙ sym v.2 ∙ sym alike ∙ sym is_key ∙ sym new_key, (λ pos. omega (arith, new_found, ap (λ z. r.width * z) m.0, m.1)))
          ];
      ordered = λ j k pos l h. elim (split_place n k (length keys2) more h) [
        | inl m ↦
            omega (arith, searched.ordered j k pos l m, old_found j (omega arith), old_found k m)
        | inr m ↦
            let f : found_at r.width nodes2 k ≡ time_of r.width i e = ap (λ z. found_at r.width nodes2 z) m ∙ new_found in
            omega (arith, searched.past j pos (omega arith), old_found j (omega arith), f)
      ];
      past = λ j pos h. elim (split_place n j (length keys2) more h) [
        | inl m ↦ omega (arith, searched.past j pos m, old_found j m)
        | inr m ↦ let f : found_at r.width nodes2 j ≡ time_of r.width i e = ap (λ z. found_at r.width nodes2 z) m ∙ new_found in omega (arith, f)
      ];
    }

-- the start alone
pub begins : {S V R : Type 0} (r : Rules S V R) (is_valid : S → Type 0) (key : List ℕ) (node : Node) → Laws r is_valid →
    key ≡ r.view r.start →
    Searched r is_valid (key ∷ []) (node ∷ []) 0
begins {S} r is_valid key node laws is_key = record {
  sizes = refl;
  some = omega arith;
  first = is_key;
  held = λ j h. let z : j ≡ 0 = omega arith in (r.start, laws.start, sym is_key ∙ ap (λ x. view_at (key ∷ []) x) (sym z));
  different = λ j k l h. absurd (omega arith);
  clear = λ a b s ha hb before v c. absurd (omega arith);
  made = λ j pos h. absurd (omega arith);
  closed = λ a b s u ha hb before v c next. absurd (omega arith);
  ordered = λ j k pos l h. absurd (omega arith);
  past = λ j pos h. absurd (omega arith);
}
