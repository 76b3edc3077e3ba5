use Rattle.std.proofs.Common.{◌≡◌, refl, ap, subst, ℕ, suc, arith, List, [], ◌∷◌, length, map, Option, None, Some, Result, Ok, Err}
use Rattle.m161_cpu.specs.declared.processor.Outcome.{Outcome}
use Rattle.m161_machine.specs.declared.event.Event.{Event}
use Rattle.m161_machine.specs.declared.event.Refusal.{Refusal}
use Rattle.m161_machine.specs.State.{State, next as result_of}
use Rattle.m161_audit.specs.declared.watch.Watch.{Watch}
use Rattle.m161_judge.specs.Verdict.{Criteria}
use Rattle.m161_alike.proofs.Behaving.{alike_law}
use Rattle.m161_alike.proofs.Telling.{view_law}
use Rattle.m161_states.specs.Question.{Question}
use Rattle.m161_states.specs.System.{Explored, Flags, accepted, all_after, behind, event_of, flags_behind, fresh, next_by, no_flags, stored_by}
use Rattle.m161_states.proofs.Law as law
use Rattle.m161_states.proofs.Shapes.{valid_next, valid_start}
use Rattle.m161_reach.specs.Reach.{IsMet, rules_of}

-- The laws of the states that are met, as an exploration asks for them.

all_size : (word : ℕ) (ws : List Watch) (fs : List Flags) → length fs ≡ length ws → length (all_after word ws fs) ≡ length ws
all_size word [] fs h = refl
all_size word (w ∷ ws) [] h = absurd (let bad : ⊥ = omega (arith, h) in bad)
all_size word (w ∷ ws) (f ∷ fs) h = ap (λ n. suc n) (all_size word ws fs (omega (arith, h)))

behind_size : (stored : Option ℕ) (ws : List Watch) (fs : List Flags) → length fs ≡ length ws → length (flags_behind stored ws fs) ≡ length ws
behind_size None ws fs h = h
behind_size (Some word) ws fs h = all_size word ws fs h

same_some : (u v : Explored) → ◌≡◌ {A = Option Explored} (Some u) (Some v) → u ≡ v
same_some u v h = cc

accepted_size : (goal : Criteria) (x u : Explored) (e : Event) (r : Result (Outcome × State) Refusal) → length x.flags ≡ length goal.watches →
    accepted goal x e r ≡ Some u → length u.flags ≡ length goal.watches
accepted_size goal x u e (Ok given) h is =
    subst (λ (y : Explored). length y.flags ≡ length goal.watches) (same_some (behind goal x e given.1) u is)
    (behind_size (stored_by e x.state) goal.watches x.flags h)
accepted_size goal x u e (Err r) h is = absurd (let bad : ◌≡◌ {A = Option Explored} None (Some u) = is in cc)

next_size : (goal : Criteria) (x u : Explored) (e : Option Event) → length x.flags ≡ length goal.watches → next_by goal x e ≡ Some u →
    length u.flags ≡ length goal.watches
next_size goal x u None h is = absurd (let bad : ◌≡◌ {A = Option Explored} None (Some u) = is in cc)
next_size goal x u (Some e) h is = accepted_size goal x u e (result_of (fresh x.state) e) h is

pub met_next : (q : Question) (x u : Explored) (n : ℕ) → IsMet q x → (rules_of q).next x n ≡ Some u → IsMet q u
unfolding rules_of
met_next q x u n h is = record { valid = valid_next q x u n h.valid is; kept = next_size q.goal x u (event_of q x n) h.kept is }

start_size : (ws : List Watch) → length (map no_flags ws) ≡ length ws
start_size [] = refl
start_size (w ∷ ws) = ap (λ n. suc n) (start_size ws)

pub met_start : (q : Question) → IsMet q (rules_of q).start
unfolding rules_of
met_start q = record { valid = valid_start q; kept = start_size q.goal.watches }

-- what follows depends on the view alone

pub alike_stop : (q : Question) (x y : Explored) (n : ℕ) → IsMet q x → IsMet q y → (rules_of q).view x ≡ (rules_of q).view y →
    (rules_of q).stop x n ≡ (rules_of q).stop y n
unfolding rules_of
alike_stop q x y n h g is = law.alike_stop alike_law view_law q x y n h.valid g.valid is

pub alike_next : (q : Question) (x y u : Explored) (n : ℕ) → IsMet q x → IsMet q y → (rules_of q).view x ≡ (rules_of q).view y →
    (rules_of q).stop x n ≡ None → (rules_of q).next x n ≡ Some u →
    (v : Explored) × ((rules_of q).next y n ≡ Some v) × ((rules_of q).view u ≡ (rules_of q).view v)
unfolding rules_of
alike_next q x y u n h g is free went = law.alike_next alike_law view_law q x y u n h.valid g.valid is free went

pub alike_verdict : (q : Question) (x y : Explored) (n : ℕ) → IsMet q x → IsMet q y → (rules_of q).view x ≡ (rules_of q).view y →
    (rules_of q).stop x n ≡ None → (rules_of q).verdict x n ≡ (rules_of q).verdict y n
unfolding rules_of
alike_verdict q x y n h g is free = law.alike_verdict alike_law view_law q x y n h.valid g.valid is free

pub alike_end : (q : Question) (x y : Explored) → IsMet q x → IsMet q y → (rules_of q).view x ≡ (rules_of q).view y →
    (rules_of q).is_end x ≡ (rules_of q).is_end y
unfolding rules_of
alike_end q x y h g is = law.alike_end alike_law view_law q x y h.valid g.valid is
