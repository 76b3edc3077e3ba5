use Rattle.std.proofs.Common.{◌≡◌, ◌∙◌, sym, ap, ℕ, ◌+◌, ◌-◌, List, ◌++◌, length, drop, arith}
use Rattle.std.proofs.lemmas.List.{drop-append-le, drop-drop, length-append, length-drop}
use Rattle.circular_buffer.specs.Buffer.{keep_last}

-- The last items.

-- the last n of the last n and more are those of all
pub keep_last_more : {A : Type 0} (n : ℕ) (xs ys : List A) → keep_last n (keep_last n xs ++ ys) ≡ keep_last n (xs ++ ys)
keep_last_more n xs ys =
    let k : ℕ = length xs - n in
    let front : drop k xs ++ ys ≡ drop k (xs ++ ys) = sym (drop-append-le k xs ys (omega arith)) in
    let long = length-append xs ys in
    let rest = length-drop k (xs ++ ys) in
    let sum : k + (length (drop k (xs ++ ys)) - n) ≡ length (xs ++ ys) - n = omega (arith, long, rest) in
    ap (keep_last n) front ∙ drop-drop (length (drop k (xs ++ ys)) - n) k (xs ++ ys) ∙ ap (λ j. drop j (xs ++ ys)) sum
