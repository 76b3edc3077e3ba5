use Rattle.std.proofs.Common.{◌≡◌, ℕ, sym, ◌∙◌}
use Rattle.std.specs.Prelude.{None, Some}
use Rattle.m161_explore.specs.Rules.{Rules}
use Rattle.m161_explore.specs.Search.{IsClear}

-- the laws of a system
pub record Laws {S V R : Type 0} (r : Rules S V R) (is_valid : S → Type 0) : Type 0 where
  pub start : is_valid r.start
  pub next : (s t : S) (e : ℕ) → is_valid s → r.next s e ≡ Some t → is_valid t
  pub stop : (s t : S) (e : ℕ) → is_valid s → is_valid t → r.view s ≡ r.view t → r.stop s e ≡ r.stop t e
  pub step : (s t u : S) (e : ℕ) → is_valid s → is_valid t → r.view s ≡ r.view t → r.stop s e ≡ None → r.next s e ≡ Some u →
      (v : S) × (r.next t e ≡ Some v) × (r.view u ≡ r.view v)
  pub verdict : (s t : S) (e : ℕ) → is_valid s → is_valid t → r.view s ≡ r.view t → r.stop s e ≡ None →
      r.verdict s e ≡ r.verdict t e
  pub ends : (s t : S) → is_valid s → is_valid t → r.view s ≡ r.view t → r.is_end s ≡ r.is_end t

-- an event of one state is clear where it is of another with the same view
pub clear_alike : {S V R : Type 0} (r : Rules S V R) (is_valid : S → Type 0) (s t : S) (e : ℕ) → Laws r is_valid →
    is_valid s → is_valid t → r.view s ≡ r.view t → IsClear r s e → IsClear r t e
clear_alike r is_valid s t e laws vs vt same clear =
    let stop : r.stop t e ≡ None = sym (laws.stop s t e vs vt same) ∙ clear.0 in (
      stop,
      (λ u next.
          let w = laws.step t s u e vt vs (sym same) stop next in
          sym (laws.verdict s t e vs vt same clear.0) ∙ clear.1 w.0 w.1),
    )
