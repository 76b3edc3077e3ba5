use Rattle.std.proofs.Common.{◌≡◌, ℕ, ◌+◌, ◌<◌, List, [], ◌∷◌, ◌++◌, length, refl, ap, sym, ◌∙◌, subst, arith, inl, inr}
use Rattle.std.specs.Prelude.{Option, Some, None}
use Rattle.std.proofs.lemmas.List.{get_or_append_left, get_or_push, length_push}
use Rattle.m161_explore.specs.Rules.{Rules}
use Rattle.m161_explore.specs.Views.{view_at}
use Rattle.m161_explore.specs.Search.{Linked, LinksTo, link_at, time_of}
use Rattle.m161_explore.proofs.Order.{times_less}
use Rattle.m161_explore.proofs.Steps.{time_cases, split_place}
use Rattle.m161_explore.proofs.Laws.{Laws}

-- a link is kept when more states are found
links_more : {S V R : Type 0} (r : Rules S V R) (keys : List (List ℕ)) (key : List ℕ) (o : Option S) (x : ℕ) → LinksTo r keys o x → LinksTo r (keys ++ key ∷ []) o x
links_more r keys key None x h = h
links_more r keys key (Some u) x h =
    (h.0, omega (arith, h.1, length_push keys key), h.2, h.3 ∙ sym (get_or_append_left keys (key ∷ []) [] h.0 h.1))

-- the link of a state is that of those with its view
links_alike : {S V R : Type 0} (r : Rules S V R) (is_valid : S → Type 0) (keys : List (List ℕ)) (s t : S) (e x : ℕ) → Laws r is_valid → is_valid s → is_valid t → r.stop s e ≡ None → r.view s ≡ r.view t →
    (o p : Option S) → r.next s e ≡ o → r.next t e ≡ p → LinksTo r keys o x → LinksTo r keys p x
links_alike r is_valid keys s t e x laws vs vt g c None None ho hp h = h
links_alike r is_valid keys s t e x laws vs vt g c None (Some v) ho hp h =
    let w = laws.step t s v e vt vs (sym c) (sym (laws.stop s t e vs vt c) ∙ g) hp in
    let b : Some w.0 ≡ None = sym w.1 ∙ ho in absurd (cc)
links_alike r is_valid keys s t e x laws vs vt g c (Some u) None ho hp h =
    let w = laws.step s t u e vs vt c g ho in
    let b : Some w.0 ≡ None = sym w.1 ∙ hp in absurd (cc)
links_alike r is_valid keys s t e x laws vs vt g c (Some u) (Some v) ho hp h =
    let w = laws.step s t u e vs vt c g ho in
    let b : Some w.0 ≡ Some v = sym w.1 ∙ hp in
    let d : w.0 ≡ v = cc in
    (h.0, h.1, h.2, sym (w.2 ∙ ap (λ z. r.view z) d) ∙ h.3)

pub linked_more : {S V R : Type 0} (r : Rules S V R) (is_valid : S → Type 0) (keys : List (List ℕ)) (key : List ℕ) (links : List ℕ) (i e : ℕ) → i < length keys → e < r.width →
    Linked r is_valid keys links (time_of r.width i e) → Linked r is_valid (keys ++ key ∷ []) links (time_of r.width i e)
linked_more r is_valid keys key links i e within w linked = record {
  count = linked.count;
  each = λ a b s ha hb before v c. elim (split_place (length keys) a (length (keys ++ key ∷ [])) (length_push keys key) ha) [
    | inl l ↦ links_more r keys key (r.next s b) (link_at r.width links a b)
        (linked.each a b s l hb before v (c ∙ get_or_append_left keys (key ∷ []) [] a l))
    | inr l ↦ absurd (omega (arith, times_less r.width i a e (omega arith) w))
  ];
}

pub linked_next : {S V R : Type 0} (r : Rules S V R) (is_valid : S → Type 0) (keys : List (List ℕ)) (links : List ℕ) (i e x : ℕ) (s : S) → Laws r is_valid → e < r.width →
    is_valid s → r.stop s e ≡ None → r.view s ≡ view_at keys i → LinksTo r keys (r.next s e) x →
    Linked r is_valid keys links (time_of r.width i e) → Linked r is_valid keys (links ++ x ∷ []) (time_of r.width i e + 1)
linked_next {S} r is_valid keys links i e x s laws w vs g cs to linked = record {
  count = omega (arith, length_push links x, linked.count);
  each = λ a b t ha hb before v c. elim (time_cases r.width a b i e hb w before) [
    | inl m ↦
        let same : link_at r.width (links ++ x ∷ []) a b ≡ link_at r.width links a b = get_or_append_left links (x ∷ []) 0 (time_of r.width a b) (omega (arith, linked.count)) in
        let P : ℕ → Type 0 = λ y. LinksTo r keys (r.next t b) y in
        subst P (sym same) (linked.each a b t ha hb m v c)
    | inr m ↦
        let here : link_at r.width (links ++ x ∷ []) a b ≡ x = ap (λ y. link_at r.width (links ++ x ∷ []) y b) m.0 ∙ ap (λ y. link_at r.width (links ++ x ∷ []) i y) m.1 ∙ get_or_push links x 0 (time_of r.width i e) linked.count in
        let P : ℕ → Type 0 = λ y. LinksTo r keys (r.next t b) y in
        let Q : ℕ → Type 0 = λ y. LinksTo r keys (r.next t y) x in
        subst P (sym here) (subst Q (sym m.1)
        (links_alike r is_valid keys s t e x laws vs v g (cs ∙ ap (λ y. view_at keys y) (sym m.0) ∙ sym c) (r.next s e) (r.next t e) refl refl to))
  ];
}
