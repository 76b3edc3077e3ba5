use Rattle.std.proofs.Common.{◌≡◌, ◌∙◌, sym, ap, ap₂, ℕ, ◌+◌, ◌-◌, ◌≤◌, List, ◌++◌, length, take, drop, append_assoc, length-append, length-drop, arith}
use Rattle.std.proofs.lemmas.List.{drop-drop, take_at, drop_at, take-append-drop, length-take-le}
use Rattle.std.proofs.Math.Seq.{take-add}
use borrow.Rule.Slice.PartMut.{mid_of, put_mid}
use Rattle.std.specs.Prelude.{slice_range}
use Rattle.m161_machine.specs.declared.event.Event.{Event}
use Rattle.m161_shorten.specs.helpers.Ranges.{swapped}

-- Parts that change places.

pub take_seam : (ws xs : List Event) (n : ℕ) → n ≡ length ws → take n (ws ++ xs) ≡ ws
take_seam ws xs n h = take_at ws xs n (sym h)

pub drop_seam : (ws xs : List Event) (n : ℕ) → n ≡ length ws → drop n (ws ++ xs) ≡ xs
drop_seam ws xs n h = drop_at ws xs n (sym h)

range_seam : (ws xs ys : List Event) (m n : ℕ) → m ≡ length ws → n ≡ m + length xs → slice_range (ws ++ (xs ++ ys)) m n ≡ xs
range_seam ws xs ys m n first second =
    let count : n - m ≡ length xs = omega arith in
    ap (take (n - m)) (drop_seam ws (xs ++ ys) m first) ∙ take_seam xs ys (n - m) count

-- what swapping does to a list of four parts
pub swapped_parts : (ws xs ys zs es : List Event) (a b c : ℕ) → es ≡ ws ++ (xs ++ (ys ++ zs)) → a ≡ length ws → b ≡ a + length xs → c ≡ b + length ys →
    swapped a b c es ≡ ws ++ ys ++ xs ++ zs
swapped_parts ws xs ys zs es a b c is at_a at_b at_c =
    let long = length-append ws xs in
    let longer = length-append (ws ++ xs) ys in
    let two : es ≡ (ws ++ xs) ++ (ys ++ zs) = is ∙ sym (append_assoc ws xs (ys ++ zs)) in
    let three : es ≡ ((ws ++ xs) ++ ys) ++ zs = two ∙ sym (append_assoc (ws ++ xs) ys zs) in
    let front : take a es ≡ ws = ap (take a) is ∙ take_seam ws (xs ++ (ys ++ zs)) a at_a in
    let second : slice_range es b c ≡ ys = ap (λ vs. slice_range vs b c) two ∙ range_seam (ws ++ xs) ys zs b c (omega arith) at_c in
    let first : slice_range es a b ≡ xs = ap (λ vs. slice_range vs a b) is ∙ range_seam ws xs (ys ++ zs) a b at_a at_b in
    let rest : drop c es ≡ zs = ap (drop c) three ∙ drop_seam ((ws ++ xs) ++ ys) zs c (omega arith) in
    ap₂ (λ x y. x ++ y ++ slice_range es a b ++ drop c es) front second
    ∙ ap₂ (λ x y. ws ++ ys ++ x ++ y) first rest

-- a list in four parts
pub four_parts : (a b c : ℕ) (es : List Event) → a ≤ b → b ≤ c → es ≡ take a es ++ (slice_range es a b ++ (slice_range es b c ++ drop c es))
four_parts a b c es ab bc =
    let to_b : a + (b - a) ≡ b = omega arith in
    let to_c : b + (c - b) ≡ c = omega arith in
    let last : drop b es ≡ slice_range es b c ++ drop c es =
    sym (take-append-drop (c - b) (drop b es)) ∙ ap (λ vs. slice_range es b c ++ vs) (drop-drop (c - b) b es ∙ ap (λ n. drop n es) to_c) in
    let middle : drop a es ≡ slice_range es a b ++ drop b es =
    sym (take-append-drop (b - a) (drop a es)) ∙ ap (λ vs. slice_range es a b ++ vs) (drop-drop (b - a) a es ∙ ap (λ n. drop n es) to_b) in
    sym (take-append-drop a es) ∙ ap (λ vs. take a es ++ vs) (middle ∙ ap (λ vs. slice_range es a b ++ vs) last)

-- swapping twice leaves the list
pub swapped_back : (a b c : ℕ) (es : List Event) → a ≤ b → b ≤ c → c ≤ length es → swapped a (a + (c - b)) c (swapped a b c es) ≡ es
swapped_back a b c es ab bc within =
    let ws = take a es in
    let xs = slice_range es a b in
    let ys = slice_range es b c in
    let zs = drop c es in
    let long_a : length ws ≡ a = length-take-le a es (omega arith) in
    let behind_a = length-drop a es in
    let behind_b = length-drop b es in
    let long_b : length xs ≡ b - a = length-take-le (b - a) (drop a es) (omega arith) in
    let long_c : length ys ≡ c - b = length-take-le (c - b) (drop b es) (omega arith) in
    let grouped : swapped a b c es ≡ ws ++ (ys ++ (xs ++ zs)) = append_assoc (ws ++ ys) xs zs ∙ append_assoc ws ys (xs ++ zs) in
    swapped_parts ws ys xs zs (swapped a b c es) a (a + (c - b)) c grouped (omega arith) (omega arith) (omega arith)
    ∙ append_assoc (ws ++ xs) ys zs ∙ append_assoc ws xs (ys ++ zs) ∙ sym (four_parts a b c es ab bc)

-- what turning a part leaves
pub put_swapped : (a b c : ℕ) (es new : List Event) → a ≤ b → b ≤ c → c ≤ length es →
    new ≡ drop (b - a) (mid_of a (c - a) es) ++ take (b - a) (mid_of a (c - a) es) → put_mid a (c - a) es new ≡ swapped a b c es
put_swapped a b c es new ab bc within is =
    let to_b : a + (b - a) ≡ b = omega arith in
    let to_c : a + (c - a) ≡ c = omega arith in
    let parts : c - a ≡ (b - a) + (c - b) = omega arith in
    let part : mid_of a (c - a) es ≡ slice_range es a b ++ slice_range es b c =
    ap (λ n. take n (drop a es)) parts ∙ take-add (b - a) (c - b) (drop a es)
    ∙ ap (λ vs. slice_range es a b ++ take (c - b) vs) (drop-drop (b - a) a es ∙ ap (λ n. drop n es) to_b) in
    let behind = length-drop a es in
    let long : length (slice_range es a b) ≡ b - a = length-take-le (b - a) (drop a es) (omega arith) in
    let second : drop (b - a) (mid_of a (c - a) es) ≡ slice_range es b c = ap (drop (b - a)) part ∙ drop_at _ _ (b - a) long in
    let first : take (b - a) (mid_of a (c - a) es) ≡ slice_range es a b = ap (take (b - a)) part ∙ take_at _ _ (b - a) long in
    let turned : new ≡ slice_range es b c ++ slice_range es a b = is ∙ ap₂ (λ x y. x ++ y) second first in
    let rest : drop (c - a) (drop a es) ≡ drop c es = drop-drop (c - a) a es ∙ ap (λ n. drop n es) to_c in
    ap₂ (λ x y. take a es ++ (x ++ y)) turned rest
    ∙ ap (λ x. take a es ++ x) (append_assoc (slice_range es b c) (slice_range es a b) (drop c es))
    ∙ sym (append_assoc (take a es) (slice_range es b c) (slice_range es a b ++ drop c es))
    ∙ sym (append_assoc (take a es ++ slice_range es b c) (slice_range es a b) (drop c es))
