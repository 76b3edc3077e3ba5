use Rattle.std.proofs.Common.{◌≡◌, ◌∙◌, refl, sym, ap, subst, ℕ, zero, suc, ◌+◌, ◌<◌, Bool, true, false, List, [], ◌∷◌, length, take, arith}
use Rattle.std.specs.Prelude.{Option, None, Some, Result, Ok, Err, slice_get}
use Rattle.m161_cpu.specs.declared.processor.Outcome.{Outcome}
use Rattle.m161_isa.specs.Choice.{first_answer}
use Rattle.m161_machine.specs.declared.event.Event.{Event}
use Rattle.m161_machine.specs.declared.event.Event.TheVariants.{Step, Key, Done}
use Rattle.m161_machine.specs.declared.event.Refusal.{Refusal}
use Rattle.m161_machine.specs.declared.event.Refusal.TheVariants.{BadProcessor, Off, Worn}
use Rattle.m161_machine.specs.State.{State, answer, is_worn, next, unless}
use Rattle.m161_judge.specs.Verdict.{LeadsTo, after, going_on}

-- Runs along a list of events.

pub some_is_one : {A : Type 0} (x y : A) → ◌≡◌ {A = Option A} (Some x) (Some y) → x ≡ y
some_is_one x y h = cc

pub none_is_not : {A : Type 0} (x : A) → ◌≡◌ {A = Option A} None (Some x) → ⊥
none_is_not x h = cc

ok_is_not : (given : Outcome × State) (refusal : Refusal) → ◌≡◌ {A = Result (Outcome × State) Refusal} (Err refusal) (Ok given) → ⊥
ok_is_not given refusal h = cc

-- an event behind which a run goes on is accepted
pub going_some : (x : Result (Outcome × State) Refusal) (f : State → Option State) (u : State) → going_on x f ≡ Some u →
    (given : Outcome × State) × (x ≡ Ok given) × (f given.1 ≡ Some u)
going_some (Ok given) f u h = (given, refl, h)
going_some (Err refusal) f u h = absurd (none_is_not u h)

-- one event more
more : (events : List Event) (n : ℕ) (e : Event) (o : Outcome) (s t u : State) → slice_get events n ≡ Some e →
    after s (take n events) ≡ Some t → next t e ≡ Ok (o, u) → after s (take (suc n) events) ≡ Some u
more [] n e o s t u at h k = absurd (none_is_not e at)
more (x ∷ xs) zero e o s t u at h k =
    let same : x ≡ e = some_is_one x e at in
    let here : s ≡ t = some_is_one s t h in
    ap (λ r. going_on r (λ v. Some v)) ((λ i. next (here i) (same i)) ∙ k)
more (x ∷ xs) (suc n) e o s t u at h k =
    let g = going_some (next s x) (λ v. after v (take n xs)) t h in
    ap (λ r. going_on r (λ v. after v (take (suc n) xs))) g.1 ∙ more xs n e o g.0.1 t u at g.2 k

pub leads_more : (events : List Event) (n : ℕ) (e : Event) (o : Outcome) (s t u : State) → slice_get events n ≡ Some e → n < length events →
    LeadsTo s events n t → next t e ≡ Ok (o, u) → LeadsTo s events (n + 1) u
leads_more events n e o s t u at less h k =
    let one : suc n ≡ n + 1 = omega arith in
    (omega (arith, less), subst (λ m. after s (take m events) ≡ Some u) one (more events n e o s t u at h.1 k))

-- an event within a run is accepted
pub made_within : (events : List Event) (k n : ℕ) (e : Event) (s u t : State) → k < n → slice_get events k ≡ Some e →
    after s (take k events) ≡ Some u → after s (take n events) ≡ Some t → (given : Outcome × State) × (next u e ≡ Ok given)
made_within [] k n e s u t less at h j = absurd (none_is_not e at)
made_within (x ∷ xs) k zero e s u t less at h j = absurd (omega (arith, less))
made_within (x ∷ xs) zero (suc n) e s u t less at h j =
    let same : x ≡ e = some_is_one x e at in
    let here : s ≡ u = some_is_one s u h in
    let g = going_some (next s x) (λ v. after v (take n xs)) t j in
    (g.0, sym (λ i. next (here i) (same i)) ∙ g.1)
made_within (x ∷ xs) (suc k) (suc n) e s u t less at h j =
    let g = going_some (next s x) (λ v. after v (take n xs)) t j in
    let there : after g.0.1 (take k xs) ≡ Some u =
    subst (λ r. going_on r (λ v. after v (take k xs)) ≡ Some u) g.1 h in
    made_within xs k n e g.0.1 u t (omega (arith, less)) at there g.2

-- a machine that is off accepts no event
off_accepts : (none off worn : Bool) (x : Result (Outcome × State) Refusal) (given : Outcome × State) → off ≡ true →
    unless (first_answer ((none, BadProcessor) ∷ (off, Off) ∷ (worn, Worn) ∷ [])) x ≡ Ok given → ⊥
off_accepts true off worn x given o h = ok_is_not given BadProcessor h
off_accepts false true worn x given o h = ok_is_not given Off h
off_accepts false false worn x given o h = let bad : false ≡ true = o in cc

input_accepts : (off worn : Bool) (x : Result (Outcome × State) Refusal) (given : Outcome × State) → off ≡ true →
    unless (first_answer ((off, Off) ∷ (worn, Worn) ∷ [])) x ≡ Ok given → ⊥
input_accepts true worn x given o h = ok_is_not given Off h
input_accepts false worn x given o h = let bad : false ≡ true = o in cc

pub off_is_last : (e : Event) (s : State) (given : Outcome × State) → s.board.off ≡ true → next s e ≡ Ok given → ⊥
unfolding next
off_is_last (Step p) s given off h = off_accepts _ s.board.off (is_worn s.made) (answer s (Step p)) given off h
off_is_last (Key byte) s given off h = input_accepts s.board.off (is_worn s.made) (answer s (Key byte)) given off h
off_is_last Done s given off h = input_accepts s.board.off (is_worn s.made) (answer s Done) given off h

-- a run doesn't go on where the machine is off
pub none_past_off : (events : List Event) (k n : ℕ) (s u t : State) → k < n → k < length events → u.board.off ≡ true →
    after s (take k events) ≡ Some u → after s (take n events) ≡ Some t → ⊥
none_past_off [] k n s u t less within off h j = absurd (omega (arith, within))
none_past_off (x ∷ xs) k zero s u t less within off h j = absurd (omega (arith, less))
none_past_off (x ∷ xs) zero (suc n) s u t less within off h j =
    let here : s ≡ u = some_is_one s u h in
    let g = going_some (next s x) (λ v. after v (take n xs)) t j in
    off_is_last x s g.0 (subst (λ v. v.board.off ≡ true) (sym here) off) g.1
none_past_off (x ∷ xs) (suc k) (suc n) s u t less within off h j =
    let g = going_some (next s x) (λ v. after v (take n xs)) t j in
    let there : after g.0.1 (take k xs) ≡ Some u =
    subst (λ r. going_on r (λ v. after v (take k xs)) ≡ Some u) g.1 h in
    none_past_off xs k n g.0.1 u t (omega (arith, less)) (omega (arith, within)) off there g.2

-- the same number of events leads to one state
pub leads_to_one : (s : State) (events : List Event) (n : ℕ) (t u : State) → LeadsTo s events n t → LeadsTo s events n u → t ≡ u
leads_to_one s events n t u h k = some_is_one t u (sym h.1 ∙ k.1)
