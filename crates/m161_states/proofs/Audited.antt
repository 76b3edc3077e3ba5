use Rattle.std.proofs.Common.{◌≡◌, ◌∙◌, refl, ap, sym, ℕ, zero, suc, Bool, true, false, List, [], ◌∷◌, map, Option, None, Some, inl, inr}
use Rattle.std.specs.Prelude.{◌==◌, ◌&&◌, ◌||◌, slice_get, if◌then◌else◌}
use Rattle.std.specs.Option.{option_or}
use Rattle.m161_tlb.specs.declared.row.Row.{Row}
use Rattle.m161_cpu.specs.declared.uses.Uses.{Uses}
use Rattle.m161_cpu.specs.declared.uses.Via.{Via}
use Rattle.m161_machine.specs.declared.event.Event.{Event}
use Rattle.m161_machine.specs.State.{State, processor_at, word_in}
use Rattle.m161_machine.specs.StoreHistory.{StoreState, live_state}
use Rattle.m161_machine.specs.Uses.{uses_in}
use Rattle.m161_audit.specs.declared.watch.Watch.{Watch}
use Rattle.m161_audit.specs.Stale.{IsStaleFor, IsStaleVia, UsesStale, entry_in, is_old}
use Rattle.m161_states.specs.declared.verdict.EventVerdict.{EventVerdict}
use Rattle.m161_states.specs.declared.verdict.EventVerdict.TheVariants.{Stale}
use Rattle.m161_states.specs.Question.{Question}
use Rattle.m161_states.specs.System.{Explored, Flags, fresh}
use Rattle.m161_states.specs.Verdicts.{is_old_row, is_stale_for, some_watch, stale_use, stale_via}
use Rattle.m161_states.specs.Run.{IsBehind, StaleIsAudited, flags_of}
use Rattle.m161_states.proofs.Told.{equal, flag_tells, same}

-- The test of a use is the audit's definition.

and_both : (a b : Bool) → (a && b) ≡ true → (a ≡ true) × (b ≡ true)
and_both true b h = (refl, h)
and_both false b h = absurd (let bad : false ≡ true = h in cc)

old_parts : (a : Option ℕ) (b : Option Row) → is_old_row a b ≡ true →
    (word : ℕ) × (row : Row) × (a ≡ Some word) × (b ≡ Some row) × (is_old (entry_in word) row ≡ true)
old_parts None b h = absurd (let bad : false ≡ true = h in cc)
old_parts (Some word) None h = absurd (let bad : false ≡ true = h in cc)
old_parts (Some word) (Some row) h = (word, row, refl, refl, h)

tested : (s : StoreState) (p : ℕ) (v : Via) (w : Watch) → is_stale_for (live_state s) p v w (flags_of s.stores w) ≡ true → IsStaleFor s p v w
tested s p v w h =
    let page = v.page == w.page in
    let id = v.id == w.id in
    let over = (flags_of s.stores w).gone_on in
    let three = and_both (page && id && over) _ h in
    let two = and_both (page && id) over three.0 in
    let one = and_both page id two.0 in
    let parts = old_parts (word_in s.memory w.pte) (slice_get (processor_at p s.processors).rows v.row) three.1 in
    record {
      page_is = equal v.page w.page one.0;
      id_is = equal v.id w.id one.1;
      gone_on = (flag_tells w s.stores).0 two.1;
      word = parts.0;
      word_is = parts.2;
      row = parts.1;
      row_is = parts.3;
      old = parts.4;
    }

test_of : (s : StoreState) (p : ℕ) (v : Via) (w : Watch) → IsStaleFor s p v w → is_stale_for (live_state s) p v w (flags_of s.stores w) ≡ true
test_of s p v w h =
    let page : (v.page == w.page) ≡ true = ap (λ x. x == w.page) h.page_is ∙ same w.page in
    let id : (v.id == w.id) ≡ true = ap (λ x. x == w.id) h.id_is ∙ same w.id in
    let over : (flags_of s.stores w).gone_on ≡ true = (flag_tells w s.stores).1 h.gone_on in
    let old : is_old_row (word_in s.memory w.pte) (slice_get (processor_at p s.processors).rows v.row) ≡ true =
    (λ i. is_old_row (h.word_is i) (h.row_is i)) ∙ h.old in
    λ i. all (page i) (id i) (over i) (old i)
  where
    all : Bool → Bool → Bool → Bool → Bool
    all a b c d = a && b && c && d

-- one of the watches

abbrev Passes : (Watch → Flags → Bool) → (Watch → Flags) → List Watch → Type 0
Passes test f ws = (i : ℕ) × (w : Watch) × (slice_get ws i ≡ Some w) × (test w (f w) ≡ true)

one_on : (test : Watch → Flags → Bool) (f : Watch → Flags) (w : Watch) (ws : List Watch) → Passes test f ws → Passes test f (w ∷ ws)
one_on test f w ws h = (suc h.0, h.1, h.2, h.3)

some_by : (test : Watch → Flags → Bool) (f : Watch → Flags) (w : Watch) (ws : List Watch) (t : Bool) → test w (f w) ≡ t →
    (t || some_watch test ws (map f ws)) ≡ true → (some_watch test ws (map f ws) ≡ true → Passes test f ws) → Passes test f (w ∷ ws)
some_by test f w ws true is h rest = (0, w, refl, is)
some_by test f w ws false is h rest = one_on test f w ws (rest h)

some_passes : (test : Watch → Flags → Bool) (f : Watch → Flags) (ws : List Watch) → some_watch test ws (map f ws) ≡ true → Passes test f ws
some_passes test f [] h = absurd (let bad : false ≡ true = h in cc)
some_passes test f (w ∷ ws) h = some_by test f w ws (test w (f w)) refl h (some_passes test f ws)

or_left : (a b : Bool) → a ≡ true → (a || b) ≡ true
or_left true b h = refl
or_left false b h = absurd (let bad : false ≡ true = h in cc)

or_right : (a b : Bool) → b ≡ true → (a || b) ≡ true
or_right true b h = refl
or_right false b h = h

passes_some : (test : Watch → Flags → Bool) (f : Watch → Flags) (ws : List Watch) (i : ℕ) (w : Watch) → slice_get ws i ≡ Some w → test w (f w) ≡ true →
    some_watch test ws (map f ws) ≡ true
passes_some test f [] i w at h = absurd (let bad : ◌≡◌ {A = Option Watch} None (Some w) = at in cc)
passes_some test f (x ∷ ws) zero w at h =
    let is : x ≡ w = let e : ◌≡◌ {A = Option Watch} (Some x) (Some w) = at in cc in
    or_left (test x (f x)) (some_watch test ws (map f ws)) (ap (λ y. test y (f y)) is ∙ h)
passes_some test f (x ∷ ws) (suc i) w at h = or_right (test x (f x)) (some_watch test ws (map f ws)) (passes_some test f ws i w at h)

-- a state of the exploration and the run that it follows

module _ (q : Question) (events : List Event) (s : StoreState) (x : Explored) (p : ℕ) (b : IsBehind q events s x) where
  memory_is : x.state.memory ≡ s.memory
  memory_is = ap (λ (u : State). u.memory) b.state

  rows_are : (processor_at p x.state.processors).rows ≡ (processor_at p s.processors).rows
  rows_are = ap (λ (u : State). (processor_at p u.processors).rows) b.state

  abbrev is_one : Via → Bool
  is_one v = some_watch (is_stale_for x.state p v) q.goal.watches x.flags

  one_is : (v : Via) → is_one v ≡ some_watch (is_stale_for (live_state s) p v) q.goal.watches (map (flags_of s.stores) q.goal.watches)
  one_is v = λ i. some_watch
      (λ w f. (v.page == w.page) && (v.id == w.id) && f.gone_on && is_old_row (word_in (memory_is i) w.pte) (slice_get (rows_are i) v.row))
      q.goal.watches (b.flags i)

  is_stale : (v : Via) → is_one v ≡ true → IsStaleVia s q.goal.watches p v
  is_stale v h =
      let one = some_passes (is_stale_for (live_state s) p v) (flags_of s.stores) q.goal.watches (sym (one_is v) ∙ h) in
      (one.0, one.1, one.2, tested s p v one.1 one.3)

  stale_is : (v : Via) → IsStaleVia s q.goal.watches p v → is_one v ≡ true
  stale_is v h = one_is v ∙ passes_some (is_stale_for (live_state s) p v) (flags_of s.stores) q.goal.watches h.0 h.1 h.2 (test_of s p v h.1 h.3)

  not_stale : (v : Via) (t : Bool) → is_one v ≡ t → (IsStaleVia s q.goal.watches p v → ⊥) → is_one v ≡ false
  not_stale v true h none = absurd (none (is_stale v h))
  not_stale v false h none = h

  -- a use, if there is one

  via_found : (o : Option Via) (v : Via) → o ≡ Some v → IsStaleVia s q.goal.watches p v → stale_via q.goal x p o ≡ Some (Stale p v.address v.row)
  via_found None v e h = absurd (let bad : ◌≡◌ {A = Option Via} None (Some v) = e in cc)
  via_found (Some u) v e h =
      let is : u ≡ v = let f : ◌≡◌ {A = Option Via} (Some u) (Some v) = e in cc in
      ap (λ (y : Via). stale_via q.goal x p (Some y)) is
      ∙ ap (λ t. if t then Some (Stale p v.address v.row) else None) (stale_is v h)

  via_none : (o : Option Via) → ((v : Via) → o ≡ Some v → IsStaleVia s q.goal.watches p v → ⊥) → stale_via q.goal x p o ≡ None
  via_none None none = refl
  via_none (Some u) none = ap (λ t. if t then Some (Stale p u.address u.row) else None) (not_stale u (is_one u) refl (none u refl))

  -- the uses of a Step

  fresh_uses : (u : State) → uses_in p (fresh u) ≡ uses_in p u
  unfolding uses_in
  fresh_uses u = refl

  uses_are : uses_in p x.state ≡ uses_in p (live_state s)
  uses_are = sym (fresh_uses x.state) ∙ ap (uses_in p) b.state ∙ fresh_uses (live_state s)

  fetch_is : (uses_in p x.state).fetch ≡ (uses_in p (live_state s)).fetch
  fetch_is = ap (λ (u : Uses). u.fetch) uses_are

  access_is : (uses_in p x.state).access ≡ (uses_in p (live_state s)).access
  access_is = ap (λ (u : Uses). u.access) uses_are

  use_found : (v : Via) → UsesStale s q.goal.watches p v → stale_use q.goal x p ≡ Some (Stale p v.address v.row)
  use_found v (inl h) = ap (λ o. option_or o (stale_via q.goal x p (uses_in p x.state).access)) (via_found (uses_in p x.state).fetch v (fetch_is ∙ h.0) h.1)
  use_found v (inr h) =
      let no_fetch = via_none (uses_in p x.state).fetch (λ f e stale. h.0 f (sym fetch_is ∙ e) stale) in
      ap (λ o. option_or o (stale_via q.goal x p (uses_in p x.state).access)) no_fetch ∙ via_found (uses_in p x.state).access v (access_is ∙ h.1) h.2

  use_none : ((v : Via) → UsesStale s q.goal.watches p v → ⊥) → stale_use q.goal x p ≡ None
  use_none none =
      let no_fetch : (f : Via) → (uses_in p x.state).fetch ≡ Some f → IsStaleVia s q.goal.watches p f → ⊥ =
      λ f e stale. none f (inl (sym fetch_is ∙ e, stale)) in
      ap (λ o. option_or o (stale_via q.goal x p (uses_in p x.state).access)) (via_none (uses_in p x.state).fetch no_fetch)
      ∙ via_none (uses_in p x.state).access (λ v e stale. none v (inr (λ f g h. no_fetch f (fetch_is ∙ g) h, sym access_is ∙ e, stale)))

  -- and what is found is a use

  abbrev IsUse : Option Via → EventVerdict → Type 0
  IsUse o u = (v : Via) × (o ≡ Some v) × (u ≡ Stale p v.address v.row) × IsStaleVia s q.goal.watches p v

  via_by : (v : Via) (u : EventVerdict) (t : Bool) → is_one v ≡ t → (if t then Some (Stale p v.address v.row) else None) ≡ Some u → IsUse (Some v) u
  via_by v u true is h =
      (v, refl, (let e : ◌≡◌ {A = Option EventVerdict} (Some (Stale p v.address v.row)) (Some u) = h in let f : Stale p v.address v.row ≡ u = cc in sym f), is_stale v is)
  via_by v u false is h = absurd (let bad : ◌≡◌ {A = Option EventVerdict} None (Some u) = h in cc)

  via_is : (o : Option Via) (u : EventVerdict) → stale_via q.goal x p o ≡ Some u → IsUse o u
  via_is None u h = absurd (let bad : ◌≡◌ {A = Option EventVerdict} None (Some u) = h in cc)
  via_is (Some v) u h = via_by v u (is_one v) refl h

  no_use : (o : Option Via) → stale_via q.goal x p o ≡ None → (v : Via) → o ≡ Some v → IsStaleVia s q.goal.watches p v → ⊥
  no_use o h v e stale = let bad : ◌≡◌ {A = Option EventVerdict} None (Some (Stale p v.address v.row)) = sym h ∙ via_found o v e stale in cc

  use_by : (u : EventVerdict) (f a : Option EventVerdict) → stale_via q.goal x p (uses_in p x.state).fetch ≡ f → stale_via q.goal x p (uses_in p x.state).access ≡ a →
      option_or f a ≡ Some u → (v : Via) × (u ≡ Stale p v.address v.row) × UsesStale s q.goal.watches p v
  use_by u (Some g) a is_f is_a h =
      let found = via_is (uses_in p x.state).fetch u (is_f ∙ h) in
      (found.0, found.2, inl (sym fetch_is ∙ found.1, found.3))
  use_by u None a is_f is_a h =
      let found = via_is (uses_in p x.state).access u (is_a ∙ h) in
      (found.0, found.2, inr (λ f e stale. no_use (uses_in p x.state).fetch is_f f (fetch_is ∙ e) stale, sym access_is ∙ found.1, found.3))

  use_is : (u : EventVerdict) → stale_use q.goal x p ≡ Some u → (v : Via) × (u ≡ Stale p v.address v.row) × UsesStale s q.goal.watches p v
  use_is u h = use_by u (stale_via q.goal x p (uses_in p x.state).fetch) (stale_via q.goal x p (uses_in p x.state).access) refl refl h

pub use_told : (q : Question) (events : List Event) (s : StoreState) (x : Explored) (p : ℕ) → IsBehind q events s x → (u : EventVerdict) → stale_use q.goal x p ≡ Some u →
    (v : Via) × (u ≡ Stale p v.address v.row) × UsesStale s q.goal.watches p v
use_told q events s x p b u h = use_is q events s x p b u h

pub stale_is_audited : StaleIsAudited
stale_is_audited q events s x p b = record { found = use_found q events s x p b; none = use_none q events s x p b }
