use Rattle.std.specs.Prelude.{ℕ, ◌+◌, ◌-◌, ◌<◌, Bool, cond, List, [], ◌∷◌, length, drop, take, slice_index, ◌==◌, ◌||◌}
use Rattle.std.specs.Char.{is_ascii_digit}
use Rattle.std.specs.List.{prefix_len}
use Rattle.std.specs.Str.{IsAscii, IsUtf8}
use Rattle.std.proofs.Common.{◌≡◌, true, false, suc, refl, arith}
use Rattle.std.proofs.lemmas.Bool.Decides.{nat_tests}
use Rattle.std.proofs.lemmas.Str.{IsUtf8-from_ascii}
use Rattle.std.proofs.lemmas.Str.Ascii.{IsAscii-nil, IsAscii-cons}
use Rattle.m161_asm.specs.Tokens.{Nothing, AName, ANumber, ARegister, ADirective, AMark, NoToken, beginning, begins_name, continues_name, name_bytes}
use Rattle.std.proofs.Math.Seq.{take-length}

-- A name is ASCII.

letter_ascii : (b : ℕ) → begins_name b ≡ true → b < 128
letter_ascii b h = grind (arith, nat_tests, h)

word_ascii : (b : ℕ) → continues_name b ≡ true → b < 128
word_ascii b h = grind (arith, nat_tests, h)

run_ascii : (bs : List ℕ) → IsAscii (name_bytes bs)
run_ascii [] = IsAscii-nil
run_ascii (b ∷ bs) =
    elim (continues_name b) as
    (λ x. continues_name b ≡ x → IsAscii (take (cond x (1 + prefix_len continues_name bs) 0) (b ∷ bs))) [
      | true ↦ λ e. let n : 1 + prefix_len continues_name bs ≡ suc (prefix_len continues_name bs) = omega arith in
          rw n (IsAscii-cons b (name_bytes bs) (word_ascii b e) (run_ascii bs))
      | false ↦ λ e. IsAscii-nil
    ] refl

-- a byte that begins a name passes the second test
second : (t u v w x y : Bool)
    → cond t Nothing
    (cond u AName
    (cond v ANumber
    (cond w ARegister (cond x ADirective (cond y AMark NoToken))))) ≡ AName → u ≡ true
second true u v w x y e = cc
second false true v w x y e = refl
second false false true w x y e = cc
second false false false true x y e = cc
second false false false false true y e = cc
second false false false false false true e = cc
second false false false false false false e = cc

begins : (b : ℕ) → beginning b ≡ AName → b < 128
unfolding beginning
begins b e =
    letter_ascii b
    (second ((b == 32) || (b == 9)) (begins_name b) (is_ascii_digit b) (b == 36) (b == 46)
    ((b == 44) || (b == 40) || (b == 41) || (b == 58) || (b == 43) || (b == 45)) e)

pub name_ascii : (rest : List ℕ) → beginning (slice_index rest 0) ≡ AName
    → IsUtf8 (slice_index rest 0 ∷ name_bytes (drop 1 rest))
name_ascii rest e =
    IsUtf8-from_ascii _
    (IsAscii-cons (slice_index rest 0) (name_bytes (drop 1 rest)) (begins (slice_index rest 0) e)
    (run_ascii (drop 1 rest)))

-- a name's bytes at the front of a line's rest
pub front : (rest : List ℕ) (n : ℕ) → 0 < length rest
    → n ≡ prefix_len continues_name (take (length rest - 1) (drop 1 rest))
    → take (1 + n) rest ≡ slice_index rest 0 ∷ name_bytes (drop 1 rest)
front [] n h e = absurd (omega (arith, h))
front (b ∷ bs) n h e =
    let k : 1 + n ≡ suc n = omega arith in
    let l : length (b ∷ bs) - 1 ≡ length bs = omega arith in
    let m : n ≡ prefix_len continues_name bs = rw (l, take-length bs) at e in
    rw (k, m) refl
