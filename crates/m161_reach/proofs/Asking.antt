use Rattle.std.proofs.Common.{◌≡◌, ◌∙◌, refl, ap, sym, ℕ, suc, ◌<◌, ◌%◌, ◌^◌, arith, Bool, true, false, List, [], ◌∷◌, get_or, length}
use Rattle.std.specs.Prelude.{not, nat_le, ◌==◌, ◌&&◌, ◌||◌, IfSome}
use Rattle.std.specs.List.{list_any}
use Rattle.std.proofs.lemmas.Bool.Decides.{nat_tests}
use Rattle.m161_machine.specs.Conf.{is_within_limits}
use Rattle.m161_machine.specs.History.{boot_state}
use Rattle.m161_machine.specs.State.{State}
use Rattle.m161_judge.specs.Verdict.{Criteria}
use Rattle.m161_states.specs.Question.{are_bytes}
use Rattle.m161_reach.specs.Reach.{CanBeAsked, IsAtBoot, start_in}

-- What can be asked of a machine at boot.

none_large : (bytes : List ℕ) → ((i : ℕ) → get_or bytes i 0 < 256) → list_any (nat_le 256) bytes ≡ false
none_large [] h = refl
none_large (b ∷ bs) h =
    let first : b < 256 = h 0 in
    let small : nat_le 256 b ≡ false = grind (arith, nat_tests, first) in
    let rest = none_large bs (λ i. h (suc i)) in
    λ i. small i || rest i

both_true : (a b : Bool) → (a && b) ≡ true → (a ≡ true) × (b ≡ true)
both_true true b h = (refl, h)
both_true false b h = absurd (let bad : false ≡ true = h in cc)

-- the fourth of seven tests
fourth : (a b d e f g h : Bool) → (a && b && d && e && f && g && h) ≡ true → e ≡ true
fourth a b d e f g h is =
    let six = (both_true (a && b && d && e && f && g) h is).0 in
    let five = (both_true (a && b && d && e && f) g six).0 in
    (both_true (a && b && d) e (both_true (a && b && d && e) f five).0).1

some_processor : (s : State) → is_within_limits s.conf ≡ true → nat_le 1 s.conf.processors ≡ true
some_processor s h =
    let n = s.conf.ram in
    fourth (nat_le 4096 n) (nat_le n (2 ^ 24)) (n % 4096 == 0) (nat_le 1 s.conf.processors) (nat_le s.conf.processors 32)
    (nat_le 1 s.conf.log) (nat_le s.conf.log (2 ^ 24)) h

at_boot : (s : State) → IsAtBoot s → s ≡ boot_state (start_in s)
at_boot s h = h.1 ∙ ap (λ (u : State). boot_state (start_in u)) (sym h.1)

pub asked_when : (s : State) (goal : Criteria) → IsAtBoot s → is_within_limits s.conf ≡ true → are_bytes s.memory ≡ true →
    length goal.watches < 2 ^ 31 → length goal.keys < 2 ^ 32 → IfSome goal.output (λ bytes. length bytes < 2 ^ 32) → CanBeAsked s goal
asked_when s goal boot limits bytes watches keys output = record {
  is_boot = at_boot s boot;
  can = λ i. some_processor s limits i && bytes i;
  watches = watches;
  keys = keys;
  output = output;
}

pub whole_when : (s : State) (goal : Criteria) → CanBeAsked s goal → are_bytes s.memory ≡ true
whole_when s goal h = (both_true (nat_le 1 s.conf.processors) (are_bytes s.memory) h.can).1

pub bytes_when : (bytes : List ℕ) (b : Bool) → ((i : ℕ) → get_or bytes i 0 < 256) → (length bytes % 4 == 0) ≡ b → are_bytes bytes ≡ b
bytes_when bytes b h is = λ i. not (none_large bytes h i) && is i
