use Rattle.std.proofs.Common.{◌≡◌, ◌∙◌, sym, ap, ℕ, suc, ◌+◌, ◌-◌, ◌<◌, ◌≤◌, List, ◌∷◌, ◌++◌, length, take, drop, set, get_or, slice_index, arith, append_assoc}
use Rattle.std.proofs.lemmas.List.{append-nil, drop-take, drop_all, get_or-append_right, get_or-drop, length-drop, length-take-le, set_split, take-append-drop, take-append-le, take-take, take_rest}
use Rattle.std.proofs.lemmas.List.Edits.{insert-append_left, length-insert, length-paste, length-remove, remove-append_left, take-paste}
use Rattle.std.proofs.Math.Seq.{drop-append_seam, take-append_seam}
use Rattle.std.specs.List.{copy_within, insert, remove}
use Rattle.std.specs.Prelude.{nat_lt, count_by, Some}
use Rattle.m161_drive.specs.Priorities.{PriorityState, after_fall, moved}

-- A number that is taken out of an array, or put into it.

pub taken_out : (xs : List ℕ) (k : ℕ) → length xs ≡ 32 → k < 32 → take 31 (copy_within xs (k + 1) 32 k) ≡ remove xs k
taken_out xs k long less =
    let n = 32 - (k + 1) in
    let end : 31 ≡ k + n = omega (arith, less) in
    let next : k + 1 ≡ suc k = omega arith in
    let left = length-drop (k + 1) xs in
    ap (λ m. take m (copy_within xs (k + 1) 32 k)) end
    ∙ take-paste xs k (drop (k + 1) xs) n (omega (arith, long, less)) (omega (arith, left, long))
    ∙ ap (λ m. take k xs ++ take (m - (k + 1)) (drop (k + 1) xs)) (sym long)
    ∙ ap (λ ys. take k xs ++ ys) (take_rest xs (k + 1))
    ∙ ap (λ m. take k xs ++ drop m xs) next

pub written_in : (xs : List ℕ) (k x : ℕ) → length xs ≡ 32 → k < 32 →
    set (copy_within xs k 31 (k + 1)) k x ≡ insert (take 31 xs) k x
written_in xs k x long less =
    let n = 31 - k in
    let all = copy_within xs k 31 (k + 1) in
    let left = length-drop k xs in
    let first = take (k + 1) xs in
    let middle = take n (drop k xs) in
    let rest = drop (k + 1 + n) xs in
    let size : length all ≡ length xs = length-paste xs (k + 1) (drop k xs) n (omega (arith, long, less)) (omega (arith, left, long)) in
    let first_size : length first ≡ k + 1 = length-take-le (k + 1) xs (omega (arith, long, less)) in
    let next : suc k ≡ length first = omega (arith, first_size) in
    let grouped : all ≡ first ++ (middle ++ rest) = append_assoc first middle rest in
    let front : take k all ≡ take k xs =
    ap (take k) grouped ∙ take-append-le k first (middle ++ rest) (omega (arith, first_size)) ∙ take-take k (k + 1) xs (omega arith) in
    let behind : drop (suc k) all ≡ middle =
    ap (drop (suc k)) grouped
    ∙ ap (λ m. drop m (first ++ (middle ++ rest))) next
    ∙ drop-append_seam first (middle ++ rest)
    ∙ ap (λ ys. middle ++ ys) (drop_all (k + 1 + n) xs (omega (arith, long, less)))
    ∙ append-nil middle in
    let whole : 31 ≡ k + n = omega (arith, less) in
    let old_front : take k (take 31 xs) ≡ take k xs = take-take k 31 xs (omega (arith, less)) in
    let old_behind : drop k (take 31 xs) ≡ middle = ap (λ m. drop k (take m xs)) whole ∙ drop-take k n xs in
    set_split all k x (omega (arith, size, long, less))
    ∙ (λ i. front i ++ x ∷ behind i)
    ∙ sym (λ i. old_front i ++ x ∷ old_behind i)

-- of the first numbers, where the others aren't used
pub first_left : (xs ys : List ℕ) (n k : ℕ) → length xs ≡ 32 → n ≤ 32 → k < n → take 31 ys ≡ remove xs k →
    take (n - 1) ys ≡ remove (take n xs) k
first_left xs ys n k long most less out =
    let front = take n xs in
    let rest = drop n xs in
    let size : length front ≡ n = length-take-le n xs (omega (arith, long, most)) in
    let left : length (remove front k) + 1 ≡ length front = length-remove front k (omega (arith, size, less)) in
    let count : n - 1 ≡ length (remove front k) = omega (arith, left, size) in
    sym (take-take (n - 1) 31 ys (omega (arith, most)))
    ∙ ap (take (n - 1)) (out ∙ ap (λ zs. remove zs k) (sym (take-append-drop n xs)) ∙ remove-append_left front rest k (omega (arith, size, less)))
    ∙ ap (λ m. take m (remove front k ++ rest)) count
    ∙ take-append_seam (remove front k) rest

pub first_more : (xs ys : List ℕ) (n k x : ℕ) → length xs ≡ 32 → n < 32 → k ≤ n → ys ≡ insert (take 31 xs) k x →
    take (n + 1) ys ≡ insert (take n xs) k x
first_more xs ys n k x long most less put =
    let front = take n xs in
    let rest = drop n (take 31 xs) in
    let size : length front ≡ n = length-take-le n xs (omega (arith, long, most)) in
    let split : take 31 xs ≡ front ++ rest =
    sym (take-append-drop n (take 31 xs)) ∙ ap (λ zs. zs ++ rest) (take-take n 31 xs (omega (arith, most))) in
    let more : length (insert front k x) ≡ length front + 1 = length-insert front k x (omega (arith, size, less)) in
    let count : n + 1 ≡ length (insert front k x) = omega (arith, more, size) in
    ap (take (n + 1)) (put ∙ ap (λ zs. insert zs k x) split ∙ insert-append_left front rest k x (omega (arith, size, less)))
    ∙ ap (λ m. take m (insert front k x ++ rest)) count
    ∙ take-append_seam (insert front k x) rest

-- the places behind both are left as they are
pub moved_behind : (from to j : ℕ) (xs : List ℕ) → length xs ≡ 32 → from < 32 → to < 32 → from < j → to < j →
    slice_index (moved from to xs) j ≡ slice_index xs j
moved_behind from to j xs long f t a b =
    let x = slice_index xs from in
    let ys = remove xs from in
    let front : length (take from xs) ≡ from = length-take-le from xs (omega (arith, f, long)) in
    let few : length ys + 1 ≡ length xs = length-remove xs from (omega (arith, f, long)) in
    let before : length (take to ys) ≡ to = length-take-le to ys (omega (arith, few, t, long)) in
    let next : j - to ≡ suc (j - (to + 1)) = omega (arith, b) in
    let within : to + (j - (to + 1)) ≡ j - 1 = omega (arith, b) in
    let old : suc from + (j - 1 - from) ≡ j = omega (arith, a) in
    get_or-append_right (take to ys) (x ∷ drop to ys) to j 0 before (omega (arith, b))
    ∙ ap (λ n. get_or (x ∷ drop to ys) n 0) next
    ∙ get_or-drop to ys (j - (to + 1)) 0
    ∙ ap (λ n. get_or ys n 0) within
    ∙ get_or-append_right (take from xs) (drop (suc from) xs) from (j - 1) 0 front (omega (arith, a))
    ∙ get_or-drop (suc from) xs (j - 1 - from) 0
    ∙ ap (λ n. get_or xs n 0) old

-- a fall, by its parts
pub fell : (r : PriorityState) (k j to : ℕ) (processors fallen others : List ℕ) → others ≡ remove r.fallen k →
    to ≡ count_by (λ i. nat_lt i j) others → processors ≡ moved k to r.processors → fallen ≡ insert others to j →
    record r { processors = processors; fallen = fallen } ≡ after_fall k (Some j) r
fell r k j to processors fallen others left count move put =
    let place : to ≡ count_by (λ i. nat_lt i j) (remove r.fallen k) = count ∙ ap (count_by (λ i. nat_lt i j)) left in
    let processors_are : processors ≡ moved k (count_by (λ i. nat_lt i j) (remove r.fallen k)) r.processors =
    move ∙ ap (λ n. moved k n r.processors) place in
    let fallen_are : fallen ≡ insert (remove r.fallen k) (count_by (λ i. nat_lt i j) (remove r.fallen k)) j =
    put ∙ (λ i. insert (left i) (place i) j) in
    λ i. record r { processors = processors_are i; fallen = fallen_are i }
