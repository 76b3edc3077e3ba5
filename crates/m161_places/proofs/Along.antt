use Rattle.std.proofs.Common.{◌≡◌, ◌∙◌, refl, ap, sym, subst, ℕ, zero, suc, Bool, true, false, cond, List, [], ◌∷◌, ◌++◌, length, take, append_assoc, arith}
use Rattle.std.proofs.lemmas.Bool.Decides.{nat_tests}
use Rattle.std.specs.List.{list_any, range_with_len}
use Rattle.std.specs.Prelude.{Option, None, Some, Result, Ok, Err, if◌then◌else◌, ◌&&◌, ◌||◌, filter, nat_lt, slice_index_or, OnOk}
use Rattle.m161_machine.specs.declared.event.Entry.{Entry}
use Rattle.m161_machine.specs.declared.event.Refusal.{Refusal}
use Rattle.m161_machine.specs.State.{State}
use Rattle.m161_drive.specs.declared.run.Stop.{Stop}
use Rattle.m161_drive.specs.declared.run.Stop.TheVariants.{Off, End, Stuck, Refused}
use Rattle.m161_drive.specs.declared.cursor.Cursor.{Cursor}
use Rattle.m161_drive.specs.Choice.{chosen_with}
use Rattle.m161_drive.specs.Drive.{Chooses, Goes, Rests}
use Rattle.m161_drive.specs.Policy.{Rules}
use Rattle.m161_drive.specs.Ready.{is_ready, ready}
use Rattle.m161_places.specs.Places.{behind_accepted, is_place, is_step, offers, with_place}
use Rattle.m161_places.proofs.Alike.{offered}
use Rattle.m161_places.proofs.Effective.{offers_on}

-- The places along a run.

-- at an event
pub offers_more : (n : ℕ) (rules : Rules) (keys : ℕ → Option ℕ) (c d : Cursor) (s t : State) (e : Entry) →
    Goes rules (keys c.typed) c s e d t →
    offers (suc n) rules keys c s ≡ with_place (is_place (Some e.event) s) (length (ready s)) (offers n rules keys d t)
offers_more n rules keys c d s t e goes =
    let choice : chosen_with rules (keys c.typed) c s ≡ (Some e.event, (chosen_with rules (keys c.typed) c s).1) =
    λ i. (goes.choice_is i, (chosen_with rules (keys c.typed) c s).1) in
    let after = (chosen_with rules (keys c.typed) c s).1 in
    offers_on n rules keys c s (Some e.event, after) goes.is_on choice
    ∙ ap (λ answer. with_place (is_place (Some e.event) s) (length (ready s)) (behind_accepted answer e.event after (offers n rules keys))) goes.accepted
    ∙ ap (λ x. with_place (is_place (Some e.event) s) (length (ready s)) (offers n rules keys x t)) (sym goes.cursor_is)

-- where it is off, or nothing is chosen
pub offers_off : (n : ℕ) (rules : Rules) (keys : ℕ → Option ℕ) (c : Cursor) (s : State) → s.board.off ≡ true → offers n rules keys c s ≡ []
unfolding offers
offers_off zero rules keys c s off = refl
offers_off (suc n) rules keys c s off =
    ap (λ b. if b then [] else offered (offers n rules keys) s (chosen_with rules (keys c.typed) c s)) off

pub offers_stuck : (n : ℕ) (rules : Rules) (keys : ℕ → Option ℕ) (c : Cursor) (s : State) → s.board.off ≡ false →
    (chosen_with rules (keys c.typed) c s).0 ≡ None → offers n rules keys c s ≡ []
unfolding offers
offers_stuck zero rules keys c s on none = refl
offers_stuck (suc n) rules keys c s on none =
    let after = (chosen_with rules (keys c.typed) c s).1 in
    offers_on n rules keys c s (None, after) on (λ i. (none i, after))

-- a turn of one event
pub one_place : (es : List Entry) (x : Entry) → length es ≡ 1 → take 1 es ≡ slice_index_or es 0 x ∷ []
one_place [] x long = absurd (let bad : ⊥ = omega (arith, long) in bad)
one_place (e ∷ es) x long = refl

counted_one : (b : Bool) (x : ℕ) (c : Bool) (xs : List ℕ) → c ≡ nat_lt 0 (length xs) → (b || c) ≡ nat_lt 0 (length (cond b (x ∷ xs) xs))
counted_one true x c xs h = grind (arith, nat_tests)
counted_one false x c xs h = h

pub any_counted : (test : ℕ → Bool) (xs : List ℕ) → list_any test xs ≡ nat_lt 0 (length (filter test xs))
any_counted test [] = refl
any_counted test (x ∷ xs) = counted_one (test x) x (list_any test xs) (filter test xs) (any_counted test xs)

pub with_place_behind : (here : Bool) (r : ℕ) (rest : List ℕ) → with_place here r [] ++ rest ≡ with_place here r rest
with_place_behind true r rest = refl
with_place_behind false r rest = refl

pub place_made : (n k : ℕ) (rules : Rules) (keys : ℕ → Option ℕ) (c d : Cursor) (s t : State) (e : Entry) (r : ℕ) (old new : List ℕ) →
    k ≡ suc n → r ≡ length (ready s) → new ≡ old ++ with_place (is_step (Some e.event) && nat_lt 0 r) r [] →
    Chooses rules keys c s (e ∷ []) d t →
    new ++ offers n rules keys d t ≡ old ++ offers k rules keys c s
place_made n k rules keys c d s t e r old new more count noted h =
    let here : (is_step (Some e.event) && nat_lt 0 r) ≡ is_place (Some e.event) s =
    ap (λ x. is_step (Some e.event) && nat_lt 0 x) count
    ∙ ap (λ b. is_step (Some e.event) && b) (sym (any_counted (is_ready s) (range_with_len 0 (length s.processors)))) in
    let rest = offers n rules keys d t in
    let goes : Goes rules (keys c.typed) c s e d t =
    subst (λ x. Goes rules (keys c.typed) c s e x t) (sym h.3.0) (subst (λ u. Goes rules (keys c.typed) c s e h.0 u) (sym h.3.1) h.2) in
    ap (λ xs. xs ++ rest) noted
    ∙ append_assoc old (with_place (is_step (Some e.event) && nat_lt 0 r) r []) rest
    ∙ ap (λ xs. old ++ xs) (with_place_behind (is_step (Some e.event) && nat_lt 0 r) r rest
    ∙ (λ i. with_place (here i) (count i) rest)
    ∙ sym (offers_more n rules keys c d s t e goes)
    ∙ ap (λ m. offers m rules keys c s) (sym more))

-- a run that ends before its last event
pub offers_rested : (n : ℕ) (rules : Rules) (keys : ℕ → Option ℕ) (c : Cursor) (s : State) (stop : Stop) →
    Rests rules (keys c.typed) c s stop → ((refusal : Refusal) → stop ≡ Refused refusal → ⊥) → offers n rules keys c s ≡ []
offers_rested n rules keys c s Off h accepted = offers_off n rules keys c s h
offers_rested n rules keys c s End h accepted = absurd h
offers_rested n rules keys c s Stuck h accepted = offers_stuck n rules keys c s h.0 h.1
offers_rested n rules keys c s (Refused refusal) h accepted = absurd (accepted refusal refl)

-- behind its last event
pub offers_none : (n : ℕ) (rules : Rules) (keys : ℕ → Option ℕ) (c : Cursor) (s : State) → n ≡ 0 → offers n rules keys c s ≡ []
unfolding offers
offers_none n rules keys c s none = ap (λ k. offers k rules keys c s) none

pub on_ok : {A E : Type 0} {P Q : Type 0} → (result : Result A E) → (P → Q) → OnOk result P → OnOk result Q
on_ok (Ok x) f h = f h
on_ok (Err e) f h = tt
