use Rattle.std.proofs.Common.{◌≡◌, ℕ, None, Some}
use Rattle.m161_alike.proofs.Behaving.{alike_law}
use Rattle.m161_alike.proofs.Telling.{view_law}
use Rattle.m161_states.specs.Question.{Question}
use Rattle.m161_states.specs.System.{Explored, stored}
use Rattle.m161_states.specs.Verdicts.{verdict}
use Rattle.m161_states.proofs.Law as law
use Rattle.m161_reach.specs.Met as met
use Rattle.m161_reach.specs.Reach.{IsMet, rules_of}
use Rattle.m161_stores.specs.helpers.Storing.{store_verdict, storing_rules}

-- The laws of the states that are met, as an exploration for a store asks for them.

pub met_next : (q : Question) (word : ℕ) (x u : Explored) (n : ℕ) → IsMet q x → (storing_rules q word).next x n ≡ Some u → IsMet q u
unfolding rules_of storing_rules
met_next q word x u n h is = met.met_next q x u n h is

pub met_start : (q : Question) (word : ℕ) → IsMet q (storing_rules q word).start
unfolding rules_of storing_rules
met_start q word = met.met_start q

pub alike_stop : (q : Question) (word : ℕ) (x y : Explored) (n : ℕ) → IsMet q x → IsMet q y → (storing_rules q word).view x ≡ (storing_rules q word).view y →
    (storing_rules q word).stop x n ≡ (storing_rules q word).stop y n
unfolding rules_of storing_rules
alike_stop q word x y n h g is = met.alike_stop q x y n h g is

pub alike_next : (q : Question) (word : ℕ) (x y u : Explored) (n : ℕ) → IsMet q x → IsMet q y → (storing_rules q word).view x ≡ (storing_rules q word).view y →
    (storing_rules q word).stop x n ≡ None → (storing_rules q word).next x n ≡ Some u →
    (v : Explored) × ((storing_rules q word).next y n ≡ Some v) × ((storing_rules q word).view u ≡ (storing_rules q word).view v)
unfolding rules_of storing_rules
alike_next q word x y u n h g is free went = met.alike_next q x y u n h g is free went

pub alike_verdict : (q : Question) (word : ℕ) (x y : Explored) (n : ℕ) → IsMet q x → IsMet q y → (storing_rules q word).view x ≡ (storing_rules q word).view y →
    (storing_rules q word).stop x n ≡ None → (storing_rules q word).verdict x n ≡ (storing_rules q word).verdict y n
unfolding rules_of storing_rules
alike_verdict q word x y n h g is free =
    let stores : stored q x n ≡ stored q y n = law.alike_stored alike_law view_law q x y n h.valid g.valid is free in
    let wrong : verdict q x n ≡ verdict q y n = met.alike_verdict q x y n h g is free in
    λ i. store_verdict word (stores i) (wrong i)

pub alike_end : (q : Question) (word : ℕ) (x y : Explored) → IsMet q x → IsMet q y → (storing_rules q word).view x ≡ (storing_rules q word).view y →
    (storing_rules q word).is_end x ≡ (storing_rules q word).is_end y
unfolding rules_of storing_rules
alike_end q word x y h g is = met.alike_end q x y h g is
