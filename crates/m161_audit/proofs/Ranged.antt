use Rattle.std.proofs.Common.{◌≡◌, ◌≢◌, ◌⊎◌, inl, inr, ◌∙◌, ap, sym, subst, arith, ℕ, ◌+◌, ◌<◌, ◌≤◌, ◌%◌, Bool, true, false, List, length, get_or, Some}
use Rattle.std.proofs.lemmas.Bool.{cases_order}
use Rattle.std.proofs.lemmas.List.{get_or-set_other, get_or-set_same, length-set}
use Rattle.std.proofs.lemmas.List.Elements.{All-set}
use Rattle.std.proofs.lemmas.Option.{get_or_from_slice_get}
use Rattle.std.specs.Prelude.{slice_get, slice_index_or, slice_set, All}
use Rattle.m161_audit.specs.declared.shootdown.Shootdown.{Shootdown}
use Rattle.m161_audit.specs.helpers.Progress.{AreInRangesBefore, IsAtMost, IsInRange, has_gone_on}

-- The ranges of places, with one shootdown more.

-- what is known after the first k shootdowns
abbrev pub Ranged : List Shootdown → List ℕ → List ℕ → ℕ → Type 0
Ranged items firsts pasts k =
    AreInRangesBefore firsts pasts items k × All (IsAtMost (length items)) pasts × (length firsts ≡ 64) × (length pasts ≡ 64)

-- the place of another remainder is left
of_place : (firsts pasts : List ℕ) (page first past i j : ℕ) → page < length firsts → page < length pasts →
    (j ≢ page → (slice_index_or firsts j 0 ≤ i) × (i < slice_index_or pasts j 0)) → (j ≡ page → (first ≤ i) × (i < past)) →
    (slice_index_or (slice_set firsts page first) j 0 ≤ i) × (i < slice_index_or (slice_set pasts page past) j 0)
of_place firsts pasts page first past i j below_f below_p other same = by (cases_order j page)
  where
    Is : Type 0
    Is = (slice_index_or (slice_set firsts page first) j 0 ≤ i) × (i < slice_index_or (slice_set pasts page past) j 0)

    apart : j ≢ page → Is
    apart ne =
        let f = get_or-set_other firsts page j first 0 ne in
        let p = get_or-set_other pasts page j past 0 ne in
        let there = other ne in
        (rw f there.0, rw p there.1)

    by : (j ≡ page) ⊎ ((j < page) ⊎ (page < j)) → Is
    by (inl e) =
        let f : get_or (slice_set firsts page first) j 0 ≡ first = ap (λ n. get_or (slice_set firsts page first) n 0) e ∙ get_or-set_same firsts page first 0 below_f in
        let p : get_or (slice_set pasts page past) j 0 ≡ past = ap (λ n. get_or (slice_set pasts page past) n 0) e ∙ get_or-set_same pasts page past 0 below_p in
        let there = same e in
        (rw f there.0, rw p there.1)
    by (inr (inl lt)) = apart (λ e. omega (arith, lt, e))
    by (inr (inr gt)) = apart (λ e. omega (arith, gt, e))

pub ranges_next : (items : List Shootdown) (firsts pasts new_firsts new_pasts : List ℕ) (k first : ℕ) (d : Shootdown) → k < length items → Ranged items firsts pasts k →
    new_firsts ≡ slice_set firsts ((get_or items k d).watch.page % 64) first → new_pasts ≡ slice_set pasts ((get_or items k d).watch.page % 64) (k + 1) →
    first ≤ slice_index_or firsts ((get_or items k d).watch.page % 64) 0 → first ≤ k →
    Ranged items new_firsts new_pasts (k + 1)
ranges_next items firsts pasts new_firsts new_pasts k first d below before firsts_are pasts_are least here =
    rw (firsts_are, pasts_are) (
      each,
      All-set (IsAtMost (length items)) pasts page (k + 1) (omega (arith, below)) before.1,
      length-set firsts page first ∙ before.2,
      length-set pasts page (k + 1) ∙ before.3,
    )
  where
    page : ℕ
    page = (get_or items k d).watch.page % 64

    New : ℕ → Shootdown → Type 0
    New i x = IsInRange (slice_set firsts page first) (slice_set pasts page (k + 1)) i x

    old : (i : ℕ) (x : Shootdown) → i < k → slice_get items i ≡ Some x → New i x
    old i x less at over =
        let there = before.0 i x less at over in
        of_place firsts pasts page first (k + 1) i (x.watch.page % 64) (omega (arith, before.2)) (omega (arith, before.3)) (λ _. there)
        (λ e. let low : slice_index_or firsts page 0 ≤ i = subst (λ n. slice_index_or firsts n 0 ≤ i) e there.0 in (omega (arith, low, least), omega (arith, less)))

    new : (i : ℕ) (x : Shootdown) → i ≡ k → slice_get items i ≡ Some x → New i x
    new i x e at over =
        let x_is : get_or items k d ≡ x = get_or_from_slice_get items k x d (subst (λ j. slice_get items j ≡ Some x) e at) in
        let page_is : page ≡ x.watch.page % 64 = ap (λ (y : Shootdown). y.watch.page % 64) x_is in
        of_place firsts pasts page first (k + 1) i (x.watch.page % 64) (omega (arith, before.2)) (omega (arith, before.3)) (λ ne. absurd (ne (sym page_is)))
        (λ _. (omega (arith, here, e), omega (arith, e)))

    each : (i : ℕ) (x : Shootdown) → i < k + 1 → slice_get items i ≡ Some x → New i x
    each i x less at = by (cases_order i k)
      where
        by : (i ≡ k) ⊎ ((i < k) ⊎ (k < i)) → New i x
        by (inl e) = new i x e at
        by (inr (inl lt)) = old i x lt at
        by (inr (inr gt)) = absurd (omega (arith, less, gt))

pub ranges_kept : (items : List Shootdown) (firsts pasts new_firsts new_pasts : List ℕ) (k : ℕ) (d : Shootdown) (b : Bool) → k < length items → Ranged items firsts pasts k →
    new_firsts ≡ firsts → new_pasts ≡ pasts → b ≡ has_gone_on (get_or items k d).progress → b ≡ false →
    Ranged items new_firsts new_pasts (k + 1)
ranges_kept items firsts pasts new_firsts new_pasts k d b below before firsts_are pasts_are is no_such =
    rw (firsts_are, pasts_are) (each, before.1, before.2, before.3)
  where
    each : (i : ℕ) (x : Shootdown) → i < k + 1 → slice_get items i ≡ Some x → IsInRange firsts pasts i x
    each i x less at over = by (cases_order i k)
      where
        by : (i ≡ k) ⊎ ((i < k) ⊎ (k < i)) → (slice_index_or firsts (x.watch.page % 64) 0 ≤ i) × (i < slice_index_or pasts (x.watch.page % 64) 0)
        by (inl e) =
            let x_is : get_or items k d ≡ x = get_or_from_slice_get items k x d (subst (λ j. slice_get items j ≡ Some x) e at) in
            absurd (let bad : true ≡ false = sym (ap has_gone_on (ap (λ (y : Shootdown). y.progress) x_is ∙ over)) ∙ sym is ∙ no_such in cc)
        by (inr (inl lt)) = before.0 i x lt at over
        by (inr (inr gt)) = absurd (omega (arith, less, gt))
