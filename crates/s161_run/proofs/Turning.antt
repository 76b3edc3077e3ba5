use Rattle.std.proofs.Common.{◌≡◌, refl, sym, subst, ℕ, List, [], ◌∷◌, length, take, Option, Ok, arith}
use Rattle.m161_machine.specs.declared.event.Entry.{Entry}
use Rattle.m161_machine.specs.State.{State}
use Rattle.m161_drive.specs.declared.cursor.Cursor.{Cursor}
use Rattle.m161_drive.specs.Drive.{Chooses, Goes, Turn}
use Rattle.m161_drive.specs.Policy.{Rules}
use Rattle.s161_run.specs.helpers.Consoles.{Makes}

-- A turn with one place makes one event.

pub one_turn : (rules : Rules) (key : Option ℕ) (c d : Cursor) (s t : State) (places : List Entry) (n : ℕ) → length places ≡ 1 →
    Turn rules key c s places (Ok n) d t → Makes rules key c s d t
one_turn rules key c d s t [] n one h = absurd (let bad : ⊥ = omega (arith, one) in bad)
one_turn rules key c d s t (e ∷ f ∷ es) n one h = absurd (let bad : ⊥ = omega (arith, one) in bad)
one_turn rules key c d s t (e ∷ []) n one h =
    let some = h.0 in
    let few = h.1 in
    let all : n ≡ 1 = omega (arith, some, few) in
    let made = subst (λ k. Chooses rules (λ i. key) c s (take k (e ∷ [])) d t) all (h.2 (λ i. key) refl) in
    (e, subst (λ x. Goes rules key c s e x t) (sym made.3.0) (subst (λ x. Goes rules key c s e made.0 x) (sym made.3.1) made.2))
