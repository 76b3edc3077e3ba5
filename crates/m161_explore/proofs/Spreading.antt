use Rattle.std.proofs.Common.{arith, zero, suc, ◌≡◌, ℕ, ◌+◌, ◌<◌, List, [], ◌∷◌, ◌++◌, length, refl, ap, sym, ◌∙◌, subst, inl, inr, set, get_or-set_same, get_or-set_other, length-set}
use Rattle.std.specs.Prelude.{Bool, true, false, slice_set}
use Rattle.std.proofs.lemmas.Bool.{cases_eq}
use Rattle.m161_explore.specs.helpers.Ends.{flag_at, LinksLead, CanReach, Spreads, unset}
use Rattle.m161_explore.specs.Search.{link_at}

pub spread_none : (width : ℕ) (links : List ℕ) (flags : List Bool) → Spreads width links flags flags
spread_none width links flags = record { size = refl; kept = λ j h. h; reached = λ j h. ([], j, refl, h) }

pub spread_one : (width : ℕ) (links : List ℕ) (old now : List Bool) (from e c : ℕ) → Spreads width links old now → from < length now →
    e < width → link_at width links from e ≡ c + 1 → flag_at now c ≡ true → Spreads width links old (slice_set now from true)
spread_one width links old now from e c s within w link flag = record {
  size = length-set now from true ∙ s.size;
  kept = λ j h. elim (cases_eq j from) [
    | inl k ↦ ap (λ x. flag_at (set now from true) x) k ∙ get_or-set_same now from true false within
    | inr k ↦ get_or-set_other now from j true false k ∙ s.kept j h
  ];
  reached = λ j h. elim (cases_eq j from) [
    | inl k ↦
        let next = s.reached c flag in
        let P : ℕ → Type 0 = λ x. CanReach width links old x in
        subst P (sym k) (e ∷ next.0, next.1, (c, w, link, next.2), next.3)
    | inr k ↦ s.reached j (sym (get_or-set_other now from j true false k) ∙ h)
  ];
}

lead_on : (width : ℕ) (links : List ℕ) (a b c : ℕ) (es fs : List ℕ) → LinksLead width links a es b → LinksLead width links b fs c → LinksLead width links a (es ++ fs) c
lead_on width links a b c [] fs h k = let P : ℕ → Type 0 = λ x. LinksLead width links x fs c in subst P h k
lead_on width links a b c (e ∷ es) fs h k = (h.0, h.1, h.2, lead_on width links h.0 b c es fs h.3 k)

pub spread_on : (width : ℕ) (links : List ℕ) (a b c : List Bool) → Spreads width links a b → Spreads width links b c → Spreads width links a c
spread_on width links a b c s t = record {
  size = t.size ∙ s.size;
  kept = λ j h. t.kept j (s.kept j h);
  reached = λ j h.
      let first = t.reached j h in
      let second = s.reached first.1 first.3 in
      (first.0 ++ second.0, second.1, lead_on width links j first.1 second.1 first.0 second.0 first.2 second.2, second.3);
}

pub unset-set : (flags : List Bool) (i : ℕ) → i < length flags → flag_at flags i ≡ false → unset (slice_set flags i true) + 1 ≡ unset flags
unset-set [] i l h = absurd (omega arith)
unset-set (true ∷ flags) zero l h = absurd (cc)
unset-set (false ∷ flags) zero l h = refl
unset-set (true ∷ flags) (suc i) l h = unset-set flags i (omega arith) h
unset-set (false ∷ flags) (suc i) l h = let k = unset-set flags i (omega arith) h in omega arith
