use Rattle.std.proofs.Common.{◌≡◌, ℕ, ◌+◌, ◌<◌, ◌≤◌, List, [], ◌∷◌, length, refl, ap, sym, ◌∙◌, subst, arith, inl, inr}
use Rattle.std.specs.Prelude.{Bool, true, false, Option, Some, None, reverse}
use Rattle.std.proofs.lemmas.Bool.{cases_order, cases_Bool}
use Rattle.m161_explore.specs.declared.graph.Node.{Node}
use Rattle.m161_explore.specs.helpers.Ends.{flag_at, LinksLead, Spreads, IsSettled}
use Rattle.m161_explore.specs.Rules.{Rules}
use Rattle.m161_explore.specs.Lists.{CanEnd, IsFirst, IsHung, Leads}
use Rattle.m161_explore.specs.Views.{view_at}
use Rattle.m161_explore.specs.Search.{Searched, Linked, LinksTo, link_at, time_of, IsBefore}
use Rattle.m161_explore.specs.helpers.Trails.{IsTrail}
use Rattle.m161_explore.specs.helpers.Visit.{AreEnds}
use Rattle.m161_explore.proofs.Laws.{Laws}
use Rattle.m161_explore.proofs.Order.{rank, rank-before, times_less}
use Rattle.m161_explore.proofs.Runs.{turned, turned_back, below, trail_leads, are_ordered, has_trail, IsCovered, is_covered, all_tried, rank_turned_less}

-- From the flags of the states that can end to all runs.

-- an event of any state has its link, once all were tried
link_of : {S V R : Type 0} (r : Rules S V R) (is_valid : S → Type 0) (keys : List (List ℕ)) (links : List ℕ) → Linked r is_valid keys links (time_of r.width (length keys) 0) →
    (a e : ℕ) (s : S) → a < length keys → e < r.width → is_valid s → r.view s ≡ view_at keys a → LinksTo r keys (r.next s e) (link_at r.width links a e)
link_of r is_valid keys links linked a e s ha he v c = linked.each a e s ha he (omega (arith, times_less r.width a (length keys) e ha he)) v c

linked_some : {S V R : Type 0} (r : Rules S V R) (keys : List (List ℕ)) (o : Option S) (x c : ℕ) → LinksTo r keys o x → x ≡ c + 1 → (u : S) × (o ≡ Some u) × (c < length keys) × (r.view u ≡ view_at keys c)
linked_some r keys None x c h e = absurd (omega arith)
linked_some r keys (Some u) x c h e =
    let same : h.0 ≡ c = omega (arith, h.2) in
    (u, refl, omega (arith, h.1, same), h.3 ∙ ap (λ y. view_at keys y) same)

linked_at : {S V R : Type 0} (r : Rules S V R) (keys : List (List ℕ)) (o : Option S) (x : ℕ) (u : S) → o ≡ Some u → LinksTo r keys o x → (c : ℕ) × (x ≡ c + 1) × (c < length keys) × (r.view u ≡ view_at keys c)
linked_at {S} r keys o x u e h =
    let P : Option S → Type 0 = λ y. LinksTo r keys y x in
    let k = subst P e h in (k.0, k.2, k.1, k.3)

-- where the links lead, events lead
links_lead : {S V R : Type 0} (r : Rules S V R) (is_valid : S → Type 0) (keys : List (List ℕ)) (links : List ℕ) → Laws r is_valid → Linked r is_valid keys links (time_of r.width (length keys) 0) →
    (es : List ℕ) (a b : ℕ) (s : S) → a < length keys → is_valid s → r.view s ≡ view_at keys a → LinksLead r.width links a es b →
    (t : S) × Leads r s es t × is_valid t × (b < length keys) × (r.view t ≡ view_at keys b)
links_lead r is_valid keys links laws linked [] a b s ha v c h =
    (s, refl, v, omega (arith, h), c ∙ ap (λ y. view_at keys y) (sym h))
links_lead r is_valid keys links laws linked (e ∷ es) a b s ha v c h =
    let u = linked_some r keys (r.next s e) (link_at r.width links a e) h.0 (link_of r is_valid keys links linked a e s ha h.1 v c) h.2 in
    let rest = links_lead r is_valid keys links laws linked es h.0 b u.0 u.2 (laws.next s u.0 e v u.1) u.3 h.3 in
    (rest.0, (u.0, h.1, u.1, rest.1), rest.2, rest.3, rest.4)

-- a state with a flag can end
flag_can_end : {S V R : Type 0} (r : Rules S V R) (is_valid : S → Type 0) (keys : List (List ℕ)) (links : List ℕ) (ends flags : List Bool) → Laws r is_valid → Linked r is_valid keys links (time_of r.width (length keys) 0) →
    AreEnds r is_valid keys ends → Spreads r.width links ends flags →
    (a : ℕ) (s : S) → a < length keys → is_valid s → r.view s ≡ view_at keys a → flag_at flags a ≡ true → CanEnd r s
flag_can_end r is_valid keys links ends flags laws linked are_ends spreads a s ha v c flag =
    let reach = spreads.reached a flag in
    let t = links_lead r is_valid keys links laws linked reach.0 a reach.1 s ha v c reach.2 in
    (reach.0, t.0, t.1, are_ends.each reach.1 t.0 t.3 t.2 t.4 ∙ reach.3)

-- a state with no flag can't
no_flag : {S V R : Type 0} (r : Rules S V R) (is_valid : S → Type 0) (keys : List (List ℕ)) (links : List ℕ) (ends flags : List Bool) → Laws r is_valid → Linked r is_valid keys links (time_of r.width (length keys) 0) →
    AreEnds r is_valid keys ends → Spreads r.width links ends flags → IsSettled r.width links flags →
    (es : List ℕ) (a : ℕ) (s t : S) → a < length keys → is_valid s → r.view s ≡ view_at keys a → flag_at flags a ≡ false → Leads r s es t → r.is_end t ≡ true → ⊥
no_flag {S} r is_valid keys links ends flags laws linked are_ends spreads settled [] a s t ha v c flag leads is =
    let d : r.is_end s ≡ true = ap (λ x. r.is_end x) (sym leads) ∙ is in
    let k : flag_at flags a ≡ true = spreads.kept a (sym (are_ends.each a s ha v c) ∙ d) in
    absurd (cc)
no_flag r is_valid keys links ends flags laws linked are_ends spreads settled (e ∷ es) a s t ha v c flag leads is =
    let u = linked_at r keys (r.next s e) (link_at r.width links a e) leads.0 leads.2 (link_of r is_valid keys links linked a e s ha leads.1 v c) in
    elim (cases_Bool (flag_at flags u.0)) [
      | inl on ↦
          let k : flag_at flags a ≡ true = settled a (omega (arith, spreads.size, are_ends.size)) e u.0 leads.1 u.1 on in
          absurd (cc)
      | inr off ↦ no_flag r is_valid keys links ends flags laws linked are_ends spreads settled es u.0 leads.0 t u.2 (laws.next s leads.0 e v leads.2) u.3 off leads.3 is
    ]

-- each state that events lead to is one that was found
found_by : {S V R : Type 0} (r : Rules S V R) (is_valid : S → Type 0) (keys : List (List ℕ)) (nodes : List Node) → Laws r is_valid → Searched r is_valid keys nodes (time_of r.width (length keys) 0) →
    (es : List ℕ) (t : S) → Leads r r.start es t → IsCovered r is_valid keys nodes (reverse es) t
found_by r is_valid keys nodes laws s es t leads =
    is_covered r is_valid keys nodes (time_of r.width (length keys) 0) laws s (λ es. Unit {0}) (all_tried r.width nodes (length keys) (time_of r.width (length keys) 0) (omega arith)) (reverse es) t tt
    (turned r r.start t es [] r.start refl leads)

pub can_always_end : {S V R : Type 0} (r : Rules S V R) (is_valid : S → Type 0) (keys : List (List ℕ)) (nodes : List Node) (links : List ℕ) (ends flags : List Bool) → Laws r is_valid → IsBefore r is_valid keys nodes links (length keys) →
    AreEnds r is_valid keys ends → Spreads r.width links ends flags →
    ((k : ℕ) → k < length flags → flag_at flags k ≡ true) → (es : List ℕ) (t : S) → Leads r r.start es t → CanEnd r t
can_always_end r is_valid keys nodes links ends flags laws before are_ends spreads all es t leads =
    let c = found_by r is_valid keys nodes laws before.searched es t leads in
    flag_can_end r is_valid keys links ends flags laws before.linked are_ends spreads c.place t c.within c.valid c.same
    (all c.place (omega (arith, spreads.size, are_ends.size, c.within)))

pub is_first_hung : {S V R : Type 0} (r : Rules S V R) (is_valid : S → Type 0) (keys : List (List ℕ)) (nodes : List Node) (links : List ℕ) (ends flags : List Bool) (i : ℕ) (trail : List ℕ) → Laws r is_valid → IsBefore r is_valid keys nodes links (length keys) →
    AreEnds r is_valid keys ends → Spreads r.width links ends flags → IsSettled r.width links flags →
    i < length flags → flag_at flags i ≡ false → ((k : ℕ) → k < i → flag_at flags k ≡ true) → IsTrail nodes i trail →
    IsFirst (IsHung r) (reverse trail)
is_first_hung r is_valid keys nodes links ends flags i trail laws before are_ends spreads settled within off earlier is_trail =
    let s = before.searched in
    let now : ℕ = time_of r.width (length keys) 0 in
    let from = trail_leads r is_valid keys nodes now laws s trail i is_trail in
    let forth : Leads r r.start (reverse trail) from.0 = turned_back r r.start from.0 from.0 trail [] from.1 refl in
    record {
      is_so = (
        from.0,
        forth,
        (λ can.
            no_flag r is_valid keys links ends flags laws before.linked are_ends spreads settled can.0 i from.0 can.1
            (omega (arith, spreads.size, are_ends.size, within)) from.2 from.3 off can.2 can.3),
      );
      first = λ es others first.
          let t = others.0 in
          let hung = others.2 in
          let c : IsCovered r is_valid keys nodes (reverse es) t = found_by r is_valid keys nodes laws s es t others.1 in
          let b = rank-before r.width es (reverse trail) (below r r.start t es others.1) (below r r.start from.0 (reverse trail) forth) first in
          let lower : rank r.width (reverse es) < rank r.width trail = rank_turned_less r.width es trail b in
          let fs = has_trail r is_valid keys nodes now s (c.place + 1) c.place (omega arith) c.within in
          let at_most : rank r.width fs.0 ≤ rank r.width (reverse es) = c.first fs.0 fs.1 in
          let order = are_ordered r is_valid keys nodes now s trail fs.0 i c.place is_trail fs.1 in
          elim (cases_order i c.place) [
            | inl m ↦ absurd (omega (arith, order.same m))
            | inr m ↦ elim m [
              | inl l ↦ absurd (omega (arith, order.less l))
              | inr l ↦ hung (flag_can_end r is_valid keys links ends flags laws before.linked are_ends spreads c.place t c.within c.valid c.same (earlier c.place l))
            ]
          ];
    }
