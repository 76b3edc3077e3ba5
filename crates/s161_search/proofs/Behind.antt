use Rattle.std.proofs.Common.{◌≡◌, ◌∙◌, refl, sym, ap, subst, ℕ, zero, suc, ◌+◌, ◌-◌, ◌<◌, ◌≤◌, Bool, true, false, List, [], ◌∷◌, ◌++◌, append_assoc, get_or, length, take, drop, take-append-drop, None, Some, arith}
use Rattle.std.specs.Prelude.{◌==◌, if◌then◌else◌, nat_lt}
use Rattle.std.proofs.lemmas.Bool.Decides.{nat_tests}
use Rattle.m161_judge.specs.Begun.{keys_in}
use Rattle.m161_machine.specs.declared.event.Event.{Event}
use Rattle.m161_machine.specs.declared.event.Event.TheVariants.{Step, Key, Done}
use Rattle.m161_shorten.specs.declared.judged.Judgement.{Judgement}
use Rattle.m161_shorten.specs.Passes.{Shortens}
use Rattle.s161_command.specs.declared.task.SearchTask.{SearchTask}
use Rattle.m161_reach.specs.declared.told.SearchVerdict.{SearchVerdict}
use Rattle.s161_search.specs.Given.{Given}
use Rattle.s161_search.specs.Searches.{AreShortened, HasKindOf, judgement_behind, kind_number}

-- Events behind first ones.

pub take_behind : (fs es : List Event) (j : ℕ) → take (length fs + j) (fs ++ es) ≡ fs ++ take j es
take_behind [] es j = let same : 0 + j ≡ j = omega arith in ap (λ k. take k es) same
take_behind (f ∷ fs) es j =
    let one : suc (length fs) + j ≡ suc (length fs + j) = omega arith in
    ap (λ k. take k (f ∷ (fs ++ es))) one ∙ ap (λ xs. f ∷ xs) (take_behind fs es j)

-- a verdict that needs so many of all needs as many of those behind
pub take_needed : (fs es : List Event) (n : ℕ) → length fs ≤ n → fs ++ take (n - length fs) es ≡ take n (fs ++ es)
take_needed fs es n all =
    let j = n - length fs in
    let sum : length fs + j ≡ n = omega (arith, all) in
    sym (take_behind fs es j) ∙ ap (λ k. take k (fs ++ es)) sum

-- the parts of a judgement

pub record Parts (first kind needs : ℕ) (j : Judgement ℕ) : Type 0 where
  pub within : first ≤ needs
  pub kind_is : j.kind ≡ kind
  pub needs_is : j.needs ≡ needs - first

parts_if : (b : Bool) (j x : Judgement ℕ) → Some j ≡ (if b then None else Some x) → (b ≡ false) × (j ≡ x)
parts_if true j x h = absurd (cc)
parts_if false j x h = (refl, cc)

not_less : (n m : ℕ) → nat_lt n m ≡ false → m ≤ n
not_less n m h = grind (arith, nat_tests, h)

pub parts_of : (first kind needs : ℕ) (j : Judgement ℕ) → Some j ≡ judgement_behind first kind needs → Parts first kind needs j
parts_of first kind needs j h =
    let p = parts_if (nat_lt needs first) j (record { kind = kind; needs = needs - first }) h in
    record {
      within = not_less needs first p.0;
      kind_is = ap (λ (x : Judgement ℕ). x.kind) p.1;
      needs_is = ap (λ (x : Judgement ℕ). x.needs) p.1;
    }

-- the events that come first of those that a verdict needs, and those behind them
pub cut_parts : (n : ℕ) (cut needed first behind : List Event) → cut ≡ needed → first ≡ take n cut → behind ≡ drop n cut → first ++ behind ≡ needed
cut_parts n cut needed first behind same first_is behind_is =
    (λ i. first_is i ++ behind_is i) ∙ take-append-drop n cut ∙ same

-- as they are printed
pub are_shortened : (n : ℕ) (task : SearchTask) (given : Given) (v : SearchVerdict) (cut needed first behind left printed : List Event) →
    cut ≡ needed → first ≡ take n cut → behind ≡ drop n cut → printed ≡ first ++ left →
    Shortens (λ kind. kind_number v == kind) (HasKindOf v task given first) behind left → AreShortened n task given needed v printed
are_shortened n task given v cut needed first behind left printed same first_is behind_is joined short =
    let front : first ≡ take n needed = first_is ∙ ap (take n) same in
    let rest : behind ≡ drop n needed = behind_is ∙ ap (drop n) same in (
      left,
      joined ∙ ap (λ es. es ++ left) front,
      subst (λ es. Shortens (λ kind. kind_number v == kind) (HasKindOf v task given (take n needed)) es left) rest
          (subst (λ es. Shortens (λ kind. kind_number v == kind) (HasKindOf v task given es) behind left) front short),
    )

-- the bytes that events type

pub keys_append : (xs ys : List Event) → keys_in (xs ++ ys) ≡ keys_in xs ++ keys_in ys
keys_append [] ys = refl
keys_append (Step p ∷ xs) ys = keys_append xs ys
keys_append (Key byte ∷ xs) ys = ap (λ ks. byte ∷ ks) (keys_append xs ys)
keys_append (Done ∷ xs) ys = keys_append xs ys

pub keys_more : (events : List Event) (i : ℕ) (d : Event) → i < length events →
    keys_in (take (suc i) events) ≡ keys_in (take i events) ++ keys_in (get_or events i d ∷ [])
keys_more [] i d there = absurd (let bad : ⊥ = omega (arith, there) in bad)
keys_more (e ∷ es) zero d there = refl
keys_more (e ∷ es) (suc i) d there =
    keys_append (e ∷ []) (take (suc i) es) ∙ ap (λ ks. keys_in (e ∷ []) ++ ks) (keys_more es i d (omega (arith, there)))
    ∙ sym (append_assoc (keys_in (e ∷ [])) (keys_in (take i es)) (keys_in (get_or es i d ∷ [])))
    ∙ ap (λ ks. ks ++ keys_in (get_or es i d ∷ [])) (sym (keys_append (e ∷ []) (take i es)))

pub keys_pushed : (events : List Event) (i : ℕ) (d : Event) (old new : List ℕ) → i < length events → old ≡ keys_in (take i events) →
    new ≡ old ++ keys_in (get_or events i d ∷ []) → new ≡ keys_in (take (i + 1) events)
keys_pushed events i d old new there old_is new_is =
    let next : suc i ≡ i + 1 = omega arith in
    new_is ∙ ap (λ ks. ks ++ keys_in (get_or events i d ∷ [])) old_is ∙ sym (keys_more events i d there) ∙ ap (λ n. keys_in (take n events)) next
