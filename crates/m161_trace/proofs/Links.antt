use Rattle.std.proofs.Common.{◌≡◌, ◌≢◌, ◌⊎◌, inl, inr, refl, sym, ap, subst, ℕ, zero, suc, Bool, true, false, List, [], ◌∷◌, map, get_or, Option, None, Some, get_or-set_other}
use Rattle.std.specs.Prelude.{if◌then◌else◌}
use Rattle.m161_isa.specs.declared.link.LinkUnit.{LinkUnit}
use Rattle.m161_cpu.specs.Links.{LinkAct, LinkState, Keep, LinkTo, End, after_act, after_store, is_to, links_after, unit_of, unless_to}
use Rattle.m161_trace.specs.Items.{linked, linked_items, unlinked, unlinked_by}
use Rattle.m161_trace.specs.Law.{Has}
use Rattle.m161_trace.proofs.Members.{unchanged}

-- The links after a Step.

-- another processor's link is as before, or it ended
abbrev pub EndsOrStays : Option ℕ → Option ℕ → Type 0
EndsOrStays x y = (y ≡ x) ⊎ (y ≡ None)

ended_if : (t : Bool) (x : Option ℕ) → EndsOrStays x (if t then None else x)
ended_if true x = inr refl
ended_if false x = inl refl

map_at : (u : LinkUnit) (at : ℕ) (links : List (Option ℕ)) (q : ℕ) → get_or (map (unless_to u at) links) q None ≡ unless_to u at (get_or links q None)
map_at u at [] q = refl
map_at u at (x ∷ links) zero = refl
map_at u at (x ∷ links) (suc q) = map_at u at links q

by_store : (stored : Option ℕ) (links : LinkState) (q : ℕ) → EndsOrStays (get_or links.live q None) (get_or (after_store stored links).live q None)
by_store None links q = inl refl
by_store (Some at) links q =
    let Q : Option ℕ → Type 0 = EndsOrStays (get_or links.live q None) in
    subst Q (sym (map_at links.unit at links.live q)) (ended_if (is_to links.unit at (get_or links.live q None)) (get_or links.live q None))

of_act : (p : ℕ) (act : LinkAct) (links : LinkState) (q : ℕ) → q ≢ p → get_or (after_act p act links).live q None ≡ get_or links.live q None
of_act p Keep links q ne = refl
of_act p (LinkTo at) links q ne = get_or-set_other links.live p q (Some (unit_of links.unit at)) None ne
of_act p End links q ne = get_or-set_other links.live p q None None ne

pub other_link : (p : ℕ) (act : LinkAct) (stored : Option ℕ) (links : LinkState) (q : ℕ) → q ≢ p → EndsOrStays (get_or links.live q None) (get_or (links_after p act stored links).live q None)
other_link p act stored links q ne =
    let Q : Option ℕ → Type 0 = EndsOrStays (get_or links.live q None) in
    subst Q (sym (of_act p act (after_store stored links) q ne)) (by_store stored links q)

-- without an item the link stays

no_end : (q : ℕ) (x y : Option ℕ) → y ≡ None → (Has (unlinked q) (unlinked_by q x y) → ⊥) → y ≡ x
no_end q None y is none = is
no_end q (Some word) None is none = absurd (none (inl refl))
no_end q (Some word) (Some other) is none = absurd (let bad : ◌≡◌ {A = Option ℕ} (Some other) None = is in cc)

pub other_stays : (q : ℕ) (x y : Option ℕ) → EndsOrStays x y → (Has (unlinked q) (unlinked_by q x y) → ⊥) → y ≡ x
other_stays q x y (inl same) none = same
other_stays q x y (inr ended) none = no_end q x y ended none

pub own_stays : (p : ℕ) (x y : Option ℕ) → ((word : ℕ) → Has (linked word) (linked_items x y) → ⊥) → (Has (unlinked p) (unlinked_by p x y) → ⊥) → y ≡ x
own_stays p None None no_link no_end = refl
own_stays p None (Some word) no_link no_end = absurd (no_link word (inl refl))
own_stays p (Some other) None no_link no_end = absurd (no_end (inl refl))
own_stays p (Some other) (Some word) no_link no_end = ap Some (unchanged other word (linked word) (no_link word))
