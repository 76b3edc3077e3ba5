use Rattle.std.proofs.Common.{◌≡◌, ◌∙◌, refl, ap, sym, ℕ, ◌≤◌, Bool, true, false, List, [], ◌∷◌, ◌++◌, length, map, drop, Option, None, Some, arith}
use Rattle.std.specs.Prelude.{◌==◌, ◌||◌, if◌then◌else◌, slice_set, All}
use Rattle.std.proofs.lemmas.List.{drop_all, drop-append-le, length-append, map-set}
use Rattle.std.proofs.lemmas.List.Elements.{All-set, All-weaker, All-head, All-tail}
use Rattle.m161_isa.specs.declared.link.LinkUnit.{LinkUnit}
use Rattle.m161_cpu.specs.Links.{LinkAct, Keep, LinkTo, End, unit_of, unless_to, after_store, after_act, links_after}
use Rattle.m161_machine.specs.StoreHistory.{Link, live, live_links, touches_unit, with_link_act, stores_after}
use Rattle.std.proofs.Math.Bool.{or-false}

-- A machine's state has the units of the live links. They are those of the links with all stores.

-- a link was made when there were at most as many stores as now
abbrev pub IsMade : List ℕ → Option Link → Type 0
IsMade stores None = Unit {0}
IsMade stores (Some link) = link.made ≤ length stores

or_assoc : (a b c : Bool) → (a || b) || c ≡ a || (b || c)
or_assoc true b c = refl
or_assoc false b c = refl

touches_more : (u : LinkUnit) (at w : ℕ) (ws : List ℕ) → touches_unit u at (ws ++ w ∷ []) ≡ touches_unit u at ws || (at == unit_of u w)
touches_more u at w [] = or-false (at == unit_of u w)
touches_more u at w (x ∷ ws) =
    ap (λ t. (at == unit_of u x) || t) (touches_more u at w ws)
    ∙ sym (or_assoc (at == unit_of u x) (touches_unit u at ws) (at == unit_of u w))

-- a store ends a live link to its unit
ended_or_live : (u : LinkUnit) (at w : ℕ) (before : Bool) →
    (if before || (at == unit_of u w) then None else Some at) ≡ unless_to u w (if before then None else Some at)
ended_or_live u at w true = refl
ended_or_live u at w false = refl

live_more : (u : LinkUnit) (stores : List ℕ) (w : ℕ) (link : Option Link) → IsMade stores link → live u (stores ++ w ∷ []) link ≡ unless_to u w (live u stores link)
live_more u stores w None made = refl
live_more u stores w (Some link) made =
    let later : drop link.made (stores ++ w ∷ []) ≡ drop link.made stores ++ w ∷ [] = drop-append-le link.made stores (w ∷ []) made in
    ap (λ ws. if touches_unit u link.at ws then None else Some link.at) later
    ∙ ap (λ (t : Bool). if t then None else Some link.at) (touches_more u link.at w (drop link.made stores))
    ∙ ended_or_live u link.at w (touches_unit u link.at (drop link.made stores))

all_more : (u : LinkUnit) (stores : List ℕ) (w : ℕ) (links : List (Option Link)) → All (IsMade stores) links →
    map (unless_to u w) (map (live u stores) links) ≡ map (live u (stores ++ w ∷ [])) links
all_more u stores w [] made = refl
all_more u stores w (link ∷ links) made =
    let first = sym (live_more u stores w link (All-head (IsMade stores) link links made)) in
    let rest = all_more u stores w links (All-tail (IsMade stores) link links made) in
    λ i. first i ∷ rest i

after_its_store : (u : LinkUnit) (stored : Option ℕ) (stores : List ℕ) (links : List (Option Link)) → All (IsMade stores) links →
    after_store stored (live_links u stores links) ≡ live_links u (stores_after stored stores) links
after_its_store u None stores links made = refl
after_its_store u (Some w) stores links made =
    let same = all_more u stores w links made in λ i. record { unit = u; live = same i }

-- a link that is made now is live
live_now : (u : LinkUnit) (stores : List ℕ) (at : ℕ) → live u stores (Some (record { at = at; made = length stores })) ≡ Some at
live_now u stores at =
    let none : drop (length stores) stores ≡ [] = drop_all (length stores) stores (omega arith) in
    ap (λ ws. if touches_unit u at ws then None else Some at) none

-- one link set
set_live : (u : LinkUnit) (p : ℕ) (to : Option ℕ) (link : Option Link) (stores : List ℕ) (links : List (Option Link)) →
    to ≡ live u stores link →
    slice_set (map (live u stores) links) p to ≡ map (live u stores) (slice_set links p link)
set_live u p to link stores links same =
    ap (slice_set (map (live u stores) links) p) same ∙ sym (map-set (live u stores) links p link)

after_its_act : (u : LinkUnit) (p : ℕ) (act : LinkAct) (stores : List ℕ) (links : List (Option Link)) →
    after_act p act (live_links u stores links) ≡ live_links u stores (with_link_act p act u (length stores) links)
after_its_act u p Keep stores links = refl
after_its_act u p (LinkTo at) stores links =
    let same = set_live u p (Some (unit_of u at)) (Some (record { at = unit_of u at; made = length stores })) stores links
    (sym (live_now u stores (unit_of u at))) in
    λ i. record { unit = u; live = same i }
after_its_act u p End stores links =
    let same = set_live u p None None stores links refl in λ i. record { unit = u; live = same i }

pub live_after : (u : LinkUnit) (p : ℕ) (act : LinkAct) (stored : Option ℕ) (stores : List ℕ) (links : List (Option Link)) → All (IsMade stores) links →
    links_after p act stored (live_links u stores links)
    ≡ live_links u (stores_after stored stores) (with_link_act p act u (length (stores_after stored stores)) links)
live_after u p act stored stores links made =
    ap (after_act p act) (after_its_store u stored stores links made)
    ∙ after_its_act u p act (stores_after stored stores) links

-- stores only grow, so every link stays one that was made before now
longer : (stored : Option ℕ) (stores : List ℕ) → length stores ≤ length (stores_after stored stores)
longer None stores = omega arith
longer (Some w) stores = let more = length-append stores (w ∷ []) in omega (arith, more)

still_made : (stored : Option ℕ) (stores : List ℕ) (link : Option Link) → IsMade stores link → IsMade (stores_after stored stores) link
still_made stored stores None made = made
still_made stored stores (Some link) made = let more = longer stored stores in omega (arith, more, made)

made_after : (u : LinkUnit) (p : ℕ) (act : LinkAct) (stores : List ℕ) (links : List (Option Link)) → All (IsMade stores) links →
    All (IsMade stores) (with_link_act p act u (length stores) links)
made_after u p Keep stores links made = made
made_after u p (LinkTo at) stores links made =
    All-set (IsMade stores) links p (Some (record { at = unit_of u at; made = length stores })) (omega arith) made
made_after u p End stores links made = All-set (IsMade stores) links p None tt made

pub all_made : (u : LinkUnit) (p : ℕ) (act : LinkAct) (stored : Option ℕ) (stores : List ℕ) (links : List (Option Link)) → All (IsMade stores) links →
    All (IsMade (stores_after stored stores)) (with_link_act p act u (length (stores_after stored stores)) links)
all_made u p act stored stores links made =
    made_after u p act (stores_after stored stores) links
    (All-weaker (IsMade stores) (IsMade (stores_after stored stores)) (still_made stored stores) links made)
