use Rattle.std.proofs.Common.{◌≡◌, ◌≢◌, ◌∙◌, ap, refl, subst, arith, ◌<◌, ◌≤◌, ℕ, List, get_or, length}
use Rattle.m161_alike.proofs.Covering.{any_default, inserted, there_already}
use Rattle.m161_alike.proofs.addresses.add_address.Goals as goal

pub returns-then-is_at : goal.returns-then-is_at
returns-then-is_at c =
    let at = c.args.at in
    let ps = c.args.addresses.now.items in
    let i = c.first_from-index.result in
    let same = c.deref.ensures.value in
    let below = subst (λ (l : List ℕ). (k : ℕ) → k < i → get_or l k 0 < at) same c.first_from-index.ensures.below in
    let same2 = c.deref-2.ensures.value in
    let found = c.if-is_at.ensures.yes refl in
    let inside : i < length ps = subst (λ (l : List ℕ). i < length l) same2 found.0 in
    let is : get_or ps i 0 ≡ at = subst (λ (l : List ℕ). get_or l i 0 ≡ at) same2 found.1 in
    there_already at i ps inside
    (λ k d less. subst (λ (x : ℕ). x < at) (any_default ps k 0 d (omega (arith, less, inside))) (below k less))
    (λ d. any_default ps i d 0 inside ∙ is)

higher : (at i : ℕ) (ps : List ℕ) → (i < length ps → at ≤ get_or ps i 0) → (i < length ps → get_or ps i 0 ≢ at) → (d : ℕ) → i < length ps → at < get_or ps i d
higher at i ps from ne d inside =
    let low = from inside in
    let other = ne inside in
    subst (λ (x : ℕ). at < x) (any_default ps i 0 d inside) (omega (arith, low, other))

pub returns : goal.returns
returns c =
    let at = c.args.at in
    let ps = c.args.addresses.now.items in
    let i = c.first_from-index.result in
    let same = c.deref.ensures.value in
    let below = subst (λ (l : List ℕ). (k : ℕ) → k < i → get_or l k 0 < at) same c.first_from-index.ensures.below in
    let from = subst (λ (l : List ℕ). i < length l → at ≤ get_or l i 0) same c.first_from-index.ensures.from in
    let within : i ≤ length ps = (let w = c.first_from-index.ensures.within in let size = ap length same in omega (arith, w, size)) in
    let same2 = c.deref-2.ensures.value in
    let ne : i < length ps → get_or ps i 0 ≢ at = subst (λ (l : List ℕ). i < length l → get_or l i 0 ≡ at → ⊥) same2 (c.if-is_at.ensures.no refl) in
    c.in_ok-insert.ensures.items
    ∙ inserted at i ps within
    (λ k d less. subst (λ (x : ℕ). x < at) (any_default ps k 0 d (omega (arith, less, within))) (below k less))
    (higher at i ps from ne)
