use Rattle.std.proofs.Common.{◌≡◌, inl, inr, ◌∙◌, refl, ap, sym, subst, ℕ, ◌<◌, ◌≤◌, ◌%◌, Bool, true, false, List, Option, None, Some}
use Rattle.std.specs.Prelude.{◌==◌, ◌&&◌, slice_get}
use Rattle.m161_tlb.specs.declared.row.Row.{Row}
use Rattle.m161_cpu.specs.declared.uses.Via.{Via}
use Rattle.m161_cpu.specs.declared.uses.Uses.{Uses}
use Rattle.m161_machine.specs.State.{State, processor_at, word_in}
use Rattle.m161_machine.specs.StoreHistory.{StoreState, live_state}
use Rattle.m161_machine.specs.Uses.{uses_in}
use Rattle.m161_audit.specs.declared.watch.Watch.{Watch}
use Rattle.m161_audit.specs.declared.shootdown.Progress.{Progress}
use Rattle.m161_audit.specs.declared.shootdown.Progress.TheVariants.{Before, Changed, GoneOn}
use Rattle.m161_audit.specs.declared.shootdown.Shootdown.{Shootdown}
use Rattle.m161_audit.specs.Stale.{IsStaleFor, IsStaleVia, UsesStale, entry_in, is_old}
use Rattle.m161_audit.specs.Tracking.{progress_of, shootdown_at}
use Rattle.m161_audit.specs.helpers.Progress.{has_gone_on, is_old_in, is_stale_for}
use Rattle.m161_audit.specs.Tracking.{IsAt}
use Rattle.m161_audit.proofs.GoneOn.{equal, gone_on_progress, progress_gone_on, same}
use Rattle.m161_audit.proofs.Tracked.{at_place, of_place}

-- The code's test of a use is the definition.

and_both : (a b : Bool) → (a && b) ≡ true → (a ≡ true) × (b ≡ true)
and_both true b h = (refl, h)
and_both false b h = absurd (cc)

gone_on_is : (p : Progress) → has_gone_on p ≡ true → p ≡ GoneOn
gone_on_is Before h = absurd (cc)
gone_on_is Changed h = absurd (cc)
gone_on_is GoneOn h = refl

old_parts : (a : Option ℕ) (b : Option Row) → is_old_in a b ≡ true →
    (word : ℕ) × (row : Row) × (a ≡ Some word) × (b ≡ Some row) × (is_old (entry_in word) row ≡ true)
old_parts None b h = absurd (cc)
old_parts (Some word) None h = absurd (cc)
old_parts (Some word) (Some row) h = (word, row, refl, refl, h)

tested : (s : StoreState) (p : ℕ) (v : Via) (w : Watch) → is_stale_for (live_state s) p v (shootdown_at s.stores w) ≡ true → IsStaleFor s p v w
tested s p v w h =
    let page = v.page == w.page in
    let id = v.id == w.id in
    let over = has_gone_on (progress_of w s.stores) in
    let three = and_both (page && id && over) _ h in
    let two = and_both (page && id) over three.0 in
    let one = and_both page id two.0 in
    let parts = old_parts (word_in s.memory w.pte) (slice_get (processor_at p s.processors).rows v.row) three.1 in
    record {
      page_is = equal v.page w.page one.0;
      id_is = equal v.id w.id one.1;
      gone_on = progress_gone_on w s.stores (gone_on_is (progress_of w s.stores) two.1);
      word = parts.0;
      word_is = parts.2;
      row = parts.1;
      row_is = parts.3;
      old = parts.4;
    }

test_of : (s : StoreState) (p : ℕ) (v : Via) (w : Watch) → IsStaleFor s p v w → is_stale_for (live_state s) p v (shootdown_at s.stores w) ≡ true
test_of s p v w h =
    let page : (v.page == w.page) ≡ true = ap (λ x. x == w.page) h.page_is ∙ same w.page in
    let id : (v.id == w.id) ≡ true = ap (λ x. x == w.id) h.id_is ∙ same w.id in
    let over : has_gone_on (progress_of w s.stores) ≡ true = ap has_gone_on (gone_on_progress w s.stores h.gone_on) in
    let old : is_old_in (word_in s.memory w.pte) (slice_get (processor_at p s.processors).rows v.row) ≡ true =
    (λ i. is_old_in (h.word_is i) (h.row_is i)) ∙ h.old in
    λ i. all (page i) (id i) (over i) (old i)
  where
    all : Bool → Bool → Bool → Bool → Bool
    all a b c d = a && b && c && d

-- one of the watches

abbrev pub Tested : State → ℕ → Via → List Shootdown → Type 0
Tested core p v items = (i : ℕ) × (x : Shootdown) × (slice_get items i ≡ Some x) × (is_stale_for core p v x ≡ true)

abbrev pub NotTested : State → ℕ → Via → List Shootdown → Type 0
NotTested core p v items = (i : ℕ) (x : Shootdown) → slice_get items i ≡ Some x → is_stale_for core p v x ≡ false

pub is_stale_via : (watches : List Watch) (s : StoreState) (core : State) (items : List Shootdown) (p : ℕ) (v : Via) → IsAt watches s core items → Tested core p v items → IsStaleVia s watches p v
is_stale_via watches s core items p v here t =
    let at = of_place watches s.stores t.0 t.1 (ap (λ l. slice_get l t.0) (sym here.items_are) ∙ t.2) in
    (t.0, at.0, at.1, tested s p v at.0 (ap (is_stale_for (live_state s) p v) at.2 ∙ ap (λ c. is_stale_for c p v t.1) (sym here.core_is) ∙ t.3))

pub no_stale_via : (watches : List Watch) (s : StoreState) (core : State) (items : List Shootdown) (p : ℕ) (v : Via) → IsAt watches s core items → NotTested core p v items → IsStaleVia s watches p v → ⊥
no_stale_via watches s core items p v at none h =
    let here : slice_get items h.0 ≡ Some (shootdown_at s.stores h.1) = ap (λ l. slice_get l h.0) at.items_are ∙ at_place watches s.stores h.0 h.1 h.2 in
    let bad : true ≡ false = sym (test_of s p v h.1 h.3) ∙ ap (λ c. is_stale_for c p v (shootdown_at s.stores h.1)) (sym at.core_is) ∙ none h.0 (shootdown_at s.stores h.1) here in
    cc

-- a use, if there is one

same_via : (o : Option Via) (v x : Via) → o ≡ Some v → o ≡ Some x → x ≡ v
same_via o v x h k = let e : ◌≡◌ {A = Option Via} (Some v) (Some x) = sym h ∙ k in cc

pub none_by_test : (watches : List Watch) (s : StoreState) (core : State) (items : List Shootdown) (p : ℕ) (o : Option Via) (v : Via) → IsAt watches s core items → o ≡ Some v → NotTested core p v items →
    (x : Via) → o ≡ Some x → IsStaleVia s watches p x → ⊥
none_by_test watches s core items p o v at h none x k stale =
    no_stale_via watches s core items p v at none (subst (IsStaleVia s watches p) (same_via o v x h k) stale)

-- the use of a Step

uses_are : (watches : List Watch) (s : StoreState) (core : State) (items : List Shootdown) (p : ℕ) (u : Uses) → IsAt watches s core items → u ≡ uses_in p core → u ≡ uses_in p (live_state s)
uses_are watches s core items p u at h = h ∙ ap (uses_in p) at.core_is

pub use_of_fetch : (watches : List Watch) (s : StoreState) (core : State) (items : List Shootdown) (p : ℕ) (u : Uses) (v : Via) → IsAt watches s core items → u ≡ uses_in p core →
    u.fetch ≡ Some v → IsStaleVia s watches p v → UsesStale s watches p v
use_of_fetch watches s core items p u v at h is stale = inl (ap (λ (x : Uses). x.fetch) (sym (uses_are watches s core items p u at h)) ∙ is, stale)

pub use_of_access : (watches : List Watch) (s : StoreState) (core : State) (items : List Shootdown) (p : ℕ) (u : Uses) (v : Via) → IsAt watches s core items → u ≡ uses_in p core →
    ((f : Via) → u.fetch ≡ Some f → IsStaleVia s watches p f → ⊥) → u.access ≡ Some v → IsStaleVia s watches p v → UsesStale s watches p v
use_of_access watches s core items p u v at h no_fetch is stale =
    let same = uses_are watches s core items p u at h in
    inr (λ f e. no_fetch f (ap (λ (x : Uses). x.fetch) same ∙ e), ap (λ (x : Uses). x.access) (sym same) ∙ is, stale)

pub no_use : (watches : List Watch) (s : StoreState) (core : State) (items : List Shootdown) (p : ℕ) (u : Uses) → IsAt watches s core items → u ≡ uses_in p core →
    ((f : Via) → u.fetch ≡ Some f → IsStaleVia s watches p f → ⊥) → ((f : Via) → u.access ≡ Some f → IsStaleVia s watches p f → ⊥) →
    (v : Via) → UsesStale s watches p v → ⊥
no_use watches s core items p u at h no_fetch no_access v (inl x) =
    no_fetch v (ap (λ (y : Uses). y.fetch) (uses_are watches s core items p u at h) ∙ x.0) x.1
no_use watches s core items p u at h no_fetch no_access v (inr x) =
    no_access v (ap (λ (y : Uses). y.access) (uses_are watches s core items p u at h) ∙ x.1) x.2

-- only the watches in the range of the page need a look

by_range : (core : State) (p : ℕ) (v : Via) (x : Shootdown) (page over : Bool) → (v.page == x.watch.page) ≡ page → has_gone_on x.progress ≡ over →
    (x.watch.page % 64 ≡ v.page % 64 → x.progress ≡ GoneOn → is_stale_for core p v x ≡ false) → is_stale_for core p v x ≡ false
by_range core p v x false over e h there = rw e refl
by_range core p v x true false e h there = rw (e, h) (no_more (v.id == x.watch.id) (is_old_in (word_in core.memory x.watch.pte) (slice_get (processor_at p core.processors).rows v.row)))
  where
    no_more : (a b : Bool) → (a && false && b) ≡ false
    no_more true b = refl
    no_more false b = refl
by_range core p v x true true e h there = there (ap (λ n. n % 64) (sym (equal v.page x.watch.page e))) (gone_on_is x.progress h)

pub none_in_range : (core : State) (p : ℕ) (v : Via) (items : List Shootdown) (first past : ℕ) →
    ((i : ℕ) (x : Shootdown) → slice_get items i ≡ Some x → x.watch.page % 64 ≡ v.page % 64 → x.progress ≡ GoneOn → (first ≤ i) × (i < past)) →
    ((i : ℕ) (x : Shootdown) → first ≤ i → i < past → slice_get items i ≡ Some x → is_stale_for core p v x ≡ false) →
    NotTested core p v items
none_in_range core p v items first past range none i x at =
    by_range core p v x (v.page == x.watch.page) (has_gone_on x.progress) refl refl (λ page over. let inside = range i x at page over in none i x inside.0 inside.1 at)
