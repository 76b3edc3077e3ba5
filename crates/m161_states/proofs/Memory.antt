use Rattle.std.proofs.Common.{◌≡◌, ◌∙◌, ap, sym, subst, ℕ, ◌+◌, ◌*◌, ◌/◌, ◌%◌, ◌<◌, arith, List, length, get_or, ext_get_or}
use Rattle.m161_ram.specs.Word.{word_at}
use Rattle.m161_alike.specs.Words.{memory_words}
use Rattle.m161_alike.proofs.Memory.{SamePlace, by_rest, changes, same_bytes, same_words}
use Rattle.m161_states.specs.Shape.{HaveBytes}

-- Memory is told by its words.

place_same : (a b : List ℕ) → HaveBytes a → HaveBytes b → (k : ℕ) → word_at a (4 * k) ≡ word_at b (4 * k) → SamePlace a b k
unfolding SamePlace
place_same a b p q k e =
    let one : 0 < (4 * k + 1) % 4 = omega arith in
    let two : 0 < (4 * k + 2) % 4 = omega arith in
    let three : 0 < (4 * k + 3) % 4 = omega arith in
    same_bytes (get_or a (4 * k) 0) (get_or a (4 * k + 1) 0) (get_or a (4 * k + 2) 0) (get_or a (4 * k + 3) 0)
    (get_or b (4 * k) 0) (get_or b (4 * k + 1) 0) (get_or b (4 * k + 2) 0) (get_or b (4 * k + 3) 0)
    (p (4 * k + 1) one) (p (4 * k + 2) two) (p (4 * k + 3) three)
    (q (4 * k + 1) one) (q (4 * k + 2) two) (q (4 * k + 3) three) e

pub memory_told : (boot a b : List ℕ) → HaveBytes a → HaveBytes b → length a % 4 ≡ 0 → length a ≡ length b →
    memory_words boot a ≡ memory_words boot b → a ≡ b
memory_told boot a b p q whole size e = ext_get_or 0 a b size (λ i below.
    let inside : i / 4 < length a / 4 = omega (arith, below, whole) in
    let same_places : length b / 4 ≡ length a / 4 = ap (λ n. n / 4) (sym size) in
    let e_too : changes boot a 0 (length a / 4) ≡ changes boot b 0 (length a / 4) = e ∙ ap (changes boot b 0) same_places in
    let zero_is : 0 + i / 4 ≡ i / 4 = omega arith in
    let words : word_at a (4 * (i / 4)) ≡ word_at b (4 * (i / 4)) =
    subst (λ k. word_at a (4 * k) ≡ word_at b (4 * k)) zero_is (same_words boot a b 0 (length a / 4) (i / 4) e_too inside) in
    by_rest a b (i / 4) (i % 4) i (omega arith) (omega arith) (place_same a b p q (i / 4) words))
