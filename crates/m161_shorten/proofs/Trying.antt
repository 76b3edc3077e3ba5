use Rattle.std.proofs.Common.{◌≡◌, ◌≤◌, ◌⊎◌, inl, inr, refl, sym, subst, ℕ, zero, suc, ◌<◌, Bool, true, false, List, [], ◌∷◌, take, arith}
use Rattle.std.specs.Prelude.{Option, None, Some}
use Rattle.m161_machine.specs.declared.event.Event.{Event}
use Rattle.m161_shorten.specs.declared.judged.Judgement.{Judgement}
use Rattle.m161_shorten.specs.declared.trial.Tried.{Tried}
use Rattle.m161_shorten.specs.Passes.{Takes}
use Rattle.m161_shorten.specs.Verdicts.{NeedsNone}
use Rattle.m161_shorten.specs.helpers.Tries.{Tries, if_taken}

-- Trials, one after the other.

-- a trial that isn't taken
pub not_taken : {K : Type 0} (is_kind : K → Bool) (judges : List Event → Option (Judgement K) → Type 0) (trial es fs : List Event) → NeedsNone is_kind judges trial → fs ≡ es →
    Tries is_kind judges (trial ∷ []) es (record { taken = false; judged = 1 }) fs
not_taken is_kind judges trial es fs none stays = record { takes = inr (0, none, (refl, refl), refl); stays = λ not. stays }

-- the first of two trials is taken, or no other may be made
pub first_enough : {K : Type 0} (is_kind : K → Bool) (judges : List Event → Option (Judgement K) → Type 0) (t u es fs : List Event) (tried : Tried) (left : ℕ) →
    Tries is_kind judges (t ∷ []) es tried fs → 0 < left → (tried.taken ≡ true) ⊎ (left ≡ 1) → Tries is_kind judges (take left (t ∷ u ∷ [])) es tried fs
first_enough is_kind judges t u es fs tried zero tries some enough = absurd (omega arith)
first_enough is_kind judges t u es fs tried (suc left) tries some (inr one) =
    let none : left ≡ 0 = omega arith in
    subst (λ n. Tries is_kind judges (t ∷ take n (u ∷ [])) es tried fs) (sym none) tries
first_enough is_kind judges t u es fs tried (suc left) tries some (inl was) = record { takes = by tries.takes; stays = tries.stays }
  where
    by : Takes is_kind judges (t ∷ []) (if_taken tried.taken fs) tried.judged → Takes is_kind judges (t ∷ take left (u ∷ [])) (if_taken tried.taken fs) tried.judged
    by (inl taken) = inl taken
    by (inr (more, none, (not, no_more), judged)) =
        let bad : if_taken true fs ≡ None = subst (λ b. if_taken b fs ≡ None) was not in
        absurd cc

-- the one trial wasn't taken
pub has_none : {K : Type 0} (is_kind : K → Bool) (judges : List Event → Option (Judgement K) → Type 0) (t es fs : List Event) (tried : Tried) →
    Tries is_kind judges (t ∷ []) es tried fs → tried.taken ≡ false → NeedsNone is_kind judges t
has_none is_kind judges t es fs tried tries not = by tries.takes
  where
    by : Takes is_kind judges (t ∷ []) (if_taken tried.taken fs) tried.judged → NeedsNone is_kind judges t
    by (inl (n, needs, taken, one)) =
        let bad : if_taken false fs ≡ Some (take n t) = subst (λ b. if_taken b fs ≡ Some (take n t)) not taken in
        absurd cc
    by (inr (more, none, later, judged)) = none

-- the second of two trials was made, after the first one wasn't taken
pub second_tries : {K : Type 0} (is_kind : K → Bool) (judges : List Event → Option (Judgement K) → Type 0) (t u es fs : List Event) (tried : Tried) (left : ℕ) →
    NeedsNone is_kind judges t → Tries is_kind judges (u ∷ []) es tried fs → tried.judged ≡ 1 → 2 ≤ left →
    Tries is_kind judges (take left (t ∷ u ∷ [])) es (record { taken = tried.taken; judged = 2 }) fs
second_tries is_kind judges t u es fs tried zero none tries one some = absurd (omega arith)
second_tries is_kind judges t u es fs tried (suc zero) none tries one some = absurd (omega arith)
second_tries is_kind judges t u es fs tried (suc (suc left)) none tries one some =
    record { takes = inr (1, none, subst (Takes is_kind judges (u ∷ take left []) (if_taken tried.taken fs)) one (by tries.takes), refl); stays = tries.stays }
  where
    no_more : (n : ℕ) (taken : Option (List Event)) (judged : ℕ) → Takes is_kind judges [] taken judged → Takes is_kind judges (take n []) taken judged
    no_more zero taken judged h = h
    no_more (suc n) taken judged h = h

    by : Takes is_kind judges (u ∷ []) (if_taken tried.taken fs) tried.judged → Takes is_kind judges (u ∷ take left []) (if_taken tried.taken fs) tried.judged
    by (inl h) = inl h
    by (inr (more, not, later, judged)) = inr (more, not, no_more left (if_taken tried.taken fs) more later, judged)
