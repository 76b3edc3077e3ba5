use Rattle.std.proofs.Common.{◌≡◌, refl, ℕ, ◌+◌, ◌*◌, ◌-◌, ◌/◌, ◌%◌, ◌<◌, false, arith}
use Rattle.std.proofs.lemmas.Bool.Decides.{nat_tests}
use Rattle.std.specs.Prelude.{◌==◌}
use Rattle.m161_cop0.specs.Registers.{exception_with}
use Rattle.m161_cpu.specs.declared.processor.Outcome.TheVariants.{Conflict, Trapped}
use Rattle.m161_machine.specs.declared.event.Event.TheVariants.{Step}
use Rattle.m161_machine.specs.Packed.{entry_in_word, or_interrupt, outcome_with, vector_with}

-- The word of an entry.

-- a trap's place
pub trap_place : (n v rows : ℕ) → v < 4 → outcome_with (4 + n * 4 + v) rows ≡ Trapped (or_interrupt (exception_with n)) (vector_with v)
trap_place n v rows small =
    let not_ran : (4 + n * 4 + v == 0) ≡ false = grind (arith, nat_tests) in
    let not_idle : (4 + n * 4 + v == 1) ≡ false = grind (arith, nat_tests) in
    let not_off : (4 + n * 4 + v == 2) ≡ false = grind (arith, nat_tests) in
    let not_conflict : (4 + n * 4 + v == 3) ≡ false = grind (arith, nat_tests) in
    let number : (4 + n * 4 + v - 4) / 4 ≡ n = omega (arith, small) in
    let vector : (4 + n * 4 + v - 4) % 4 ≡ v = omega (arith, small) in
    rw (not_ran, not_idle, not_off, not_conflict, number, vector) refl

-- a Step's word
pub step_word : (p place : ℕ) → p < 32 → place % 2048 < 62 →
    entry_in_word (p * 64 + place) ≡ record { event = Step p; outcome = outcome_with (place % 64) (place / 2048) }
step_word p place few small =
    let code_is : (p * 64 + place) % 64 ≡ place % 64 = omega (arith, small) in
    let code_small : place % 64 < 62 = omega (arith, small) in
    let not_key : (place % 64 == 62) ≡ false = grind (arith, nat_tests, code_small) in
    let not_done : (place % 64 == 63) ≡ false = grind (arith, nat_tests, code_small) in
    let p_is : (p * 64 + place) / 64 % 32 ≡ p = omega (arith, small, few) in
    let rows_are : (p * 64 + place) / 2048 ≡ place / 2048 = omega (arith, small, few) in
    rw (code_is, not_key, not_done, p_is, rows_are) refl

-- a conflict's place
pub conflict_place : (row other : ℕ) → other < 64 → outcome_with (((row * 64 + other) * 2048 + 3) % 64) (((row * 64 + other) * 2048 + 3) / 2048) ≡ Conflict row other
conflict_place row other small =
    let code_is : ((row * 64 + other) * 2048 + 3) % 64 ≡ 3 = omega (arith, small) in
    let rows_are : ((row * 64 + other) * 2048 + 3) / 2048 ≡ row * 64 + other = omega (arith, small) in
    let row_is : (row * 64 + other) / 64 ≡ row = omega (arith, small) in
    let other_is : (row * 64 + other) % 64 ≡ other = omega (arith, small) in
    rw (code_is, rows_are, row_is, other_is) refl
