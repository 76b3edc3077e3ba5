use Rattle.std.proofs.Common.{◌≡◌, ℕ, ◌+◌, ◌*◌, ◌<◌, ◌≤◌, suc, zero, List, [], ◌∷◌, ◌++◌, length, take, drop, refl, ap, sym, ◌∙◌, subst, arith, inl, inr, length-append, length-drop}
use Rattle.std.proofs.lemmas.List.{length-take-le}
use Rattle.std.specs.Prelude.{Err, MatchOption, None, Ok, OnErr, OnOk, Option, Result, Some, slice_index_or}
use Rattle.std.proofs.lemmas.Bool.{cases_order}
use Rattle.std.proofs.lemmas.List.{append-nil, append_assoc, drop-take, take-append-drop, take-take, take_more, take-append-le, drop-append-le, take_all, drop_all, get_or_append_left, get_or_push, length_push}
use Rattle.m161_explore.specs.helpers.Pieces.{AreKept, ArePieces, AreSpelled, Spells, joined, joined_each, piece_at}
use Rattle.m161_explore.proofs.Steps.{split_place}

-- Lists of words that are kept as the numbers of their pieces.

-- the words that numbers spell are those of their pieces
pub spells_joined : (size : ℕ) (pieces : List (List ℕ)) (ns words : List ℕ) → Spells size pieces ns words → joined pieces ns ≡ words
spells_joined size pieces [] words h = sym h
spells_joined size pieces (n ∷ ns) words h =
    ap (λ x. x ++ joined pieces ns) h.2 ∙ ap (λ x. take size words ++ x) (spells_joined size pieces ns (drop size words) h.3) ∙ take-append-drop size words

-- a piece has one number
one_number : (pieces : List (List ℕ)) (j k : ℕ) → ArePieces pieces → j < length pieces → k < length pieces → piece_at pieces j ≡ piece_at pieces k → j ≡ k
one_number pieces j k are hj hk same = elim (cases_order j k) [
  | inl e ↦ e
  | inr l ↦ elim l [
    | inl m ↦ absurd (are.unequal j k m hk same)
    | inr m ↦ absurd (are.unequal k j m hj (sym same))
  ]
]

-- words are spelled by one list of numbers
pub spells_alike : (size : ℕ) (pieces : List (List ℕ)) (ns ms words : List ℕ) → ArePieces pieces → Spells size pieces ns words → Spells size pieces ms words → ns ≡ ms
spells_alike size pieces [] [] words are h k = refl
spells_alike size pieces [] (m ∷ ms) words are h k = absurd (omega (arith, ap length h, k.0))
spells_alike size pieces (n ∷ ns) [] words are h k = absurd (omega (arith, ap length k, h.0))
spells_alike size pieces (n ∷ ns) (m ∷ ms) words are h k =
    ap (λ x. x ∷ ns) (one_number pieces n m are h.1 k.1 (h.2 ∙ sym k.2)) ∙ ap (λ x. m ∷ x) (spells_alike size pieces ns ms (drop size words) are h.3 k.3)

-- each number is that of a piece
pub spells_within : (size : ℕ) (pieces : List (List ℕ)) (ns words : List ℕ) (i : ℕ) → Spells size pieces ns words → i < length ns → slice_index_or ns i 0 < length pieces
spells_within size pieces [] words i h l = absurd (omega arith)
spells_within size pieces (n ∷ ns) words zero h l = h.1
spells_within size pieces (n ∷ ns) words (suc i) h l = spells_within size pieces ns (drop size words) i h.3 (omega arith)

-- one more piece behind whole ones
pub spells_push : (size : ℕ) (pieces : List (List ℕ)) (ns words piece : List ℕ) (n : ℕ) → Spells size pieces ns words → length words ≡ size * length ns →
    n < length pieces → piece_at pieces n ≡ piece → 0 < length piece → length piece ≤ size → Spells size pieces (ns ++ n ∷ []) (words ++ piece)
spells_push size pieces [] words piece n h whole within is some few =
    let P : List ℕ → Type 0 = λ x. Spells size pieces (n ∷ []) (x ++ piece) in
    subst P (sym h) (some, within, is ∙ sym (take_all size piece few), drop_all size piece few)
spells_push size pieces (m ∷ ms) words piece n h whole within is some few =
    let long : size ≤ length words = omega arith in
    let P : List ℕ → Type 0 = λ x. Spells size pieces (ms ++ n ∷ []) x in (
      omega (arith, h.0, length-append words piece),
      h.1,
      h.2 ∙ sym (take-append-le size words piece long),
      subst P (sym (drop-append-le size words piece long))
          (spells_push size pieces ms (drop size words) piece n h.3 (omega (arith, length-drop size words)) within is some few),
    )

pub kept_on : (old mid new : List (List ℕ)) → AreKept old mid → AreKept mid new → AreKept old new
kept_on old mid new h k = record {
  within = λ j l. k.within j (h.within j l);
  same = λ j l. k.same j (h.within j l) ∙ h.same j l;
}

-- more pieces change no words
pub joined_kept : (size : ℕ) (old new : List (List ℕ)) (ns words : List ℕ) → AreKept old new → Spells size old ns words → joined new ns ≡ joined old ns
joined_kept size old new [] words kept h = refl
joined_kept size old new (n ∷ ns) words kept h =
    ap (λ x. x ++ joined new ns) (kept.same n h.1) ∙ ap (λ x. piece_at old n ++ x) (joined_kept size old new ns (drop size words) kept h.3)

pub spells_kept : (size : ℕ) (old new : List (List ℕ)) (ns words : List ℕ) → AreKept old new → Spells size old ns words → Spells size new ns words
spells_kept size old new [] words kept h = h
spells_kept size old new (n ∷ ns) words kept h =
    (h.0, kept.within n h.1, kept.same n h.1 ∙ h.2, spells_kept size old new ns (drop size words) kept h.3)

pub each_kept : (size : ℕ) (old new lists : List (List ℕ)) → AreKept old new → AreSpelled size old lists → joined_each new lists ≡ joined_each old lists
each_kept size old new [] kept h = refl
each_kept size old new (ns ∷ lists) kept h =
    ap (λ x. x ∷ joined_each new lists) (joined_kept size old new ns (joined old ns) kept (h 0 (omega arith)))
    ∙ ap (λ x. joined old ns ∷ x) (each_kept size old new lists kept (λ i l. h (suc i) (omega (arith, l))))

pub spelled_kept : (size : ℕ) (old new lists : List (List ℕ)) → AreKept old new → AreSpelled size old lists → AreSpelled size new lists
spelled_kept size old new lists kept h =
    λ i l.
    let ns : List ℕ = slice_index_or lists i [] in
    let P : List ℕ → Type 0 = λ x. Spells size new ns x in
    subst P (sym (joined_kept size old new ns (joined old ns) kept (h i l))) (spells_kept size old new ns (joined old ns) kept (h i l))

-- the words of the list with a number
pub each_at : (pieces lists : List (List ℕ)) (i : ℕ) → joined pieces (slice_index_or lists i []) ≡ slice_index_or (joined_each pieces lists) i []
each_at pieces [] i = refl
each_at pieces (ns ∷ lists) zero = refl
each_at pieces (ns ∷ lists) (suc i) = each_at pieces lists i

pub length-each : (pieces lists : List (List ℕ)) → length (joined_each pieces lists) ≡ length lists
length-each pieces [] = refl
length-each pieces (ns ∷ lists) = ap suc (length-each pieces lists)

each_push : (pieces lists : List (List ℕ)) (ns : List ℕ) → joined_each pieces (lists ++ ns ∷ []) ≡ joined_each pieces lists ++ joined pieces ns ∷ []
each_push pieces [] ns = refl
each_push pieces (ms ∷ lists) ns = ap (λ x. joined pieces ms ∷ x) (each_push pieces lists ns)

joined_push : (pieces : List (List ℕ)) (ns : List ℕ) (n : ℕ) → joined pieces (ns ++ n ∷ []) ≡ joined pieces ns ++ piece_at pieces n
joined_push pieces [] n = append-nil (piece_at pieces n)
joined_push pieces (m ∷ ms) n =
    ap (λ x. piece_at pieces m ++ x) (joined_push pieces ms n) ∙ sym (append_assoc (piece_at pieces m) (joined pieces ms) (piece_at pieces n))

-- the words of one number more
pub joined_more : (pieces : List (List ℕ)) (ns : List ℕ) (i : ℕ) → i < length ns →
    joined pieces (take (i + 1) ns) ≡ joined pieces (take i ns) ++ piece_at pieces (slice_index_or ns i 0)
joined_more pieces ns i l = ap (λ x. joined pieces x) (take_more ns i 0 l) ∙ joined_push pieces (take i ns) (slice_index_or ns i 0)

take_split : (words : List ℕ) (at m : ℕ) → take at words ++ take m (drop at words) ≡ take (at + m) words
take_split words at m =
    ap (λ x. x ++ take m (drop at words)) (sym (take-take at (at + m) words (omega arith)))
    ∙ ap (λ x. take at (take (at + m) words) ++ x) (sym (drop-take at m words)) ∙ take-append-drop at (take (at + m) words)

-- the piece from a place on is that with this number
pub spells_next : (size : ℕ) (pieces : List (List ℕ)) (ns words piece : List ℕ) (at m n : ℕ) → Spells size pieces ns (take at words) → at ≡ size * length ns →
    0 < m → m ≤ size → at + m ≤ length words → n < length pieces → piece_at pieces n ≡ piece → piece ≡ take m (drop at words) →
    Spells size pieces (ns ++ n ∷ []) (take (at + m) words)
spells_next size pieces ns words piece at m n h whole some few within number is cut =
    let long : length piece ≡ m = ap length cut ∙ length-take-le m (drop at words) (omega (arith, length-drop at words)) in
    let P : List ℕ → Type 0 = λ x. Spells size pieces (ns ++ n ∷ []) x in
    subst P (ap (λ x. take at words ++ x) cut ∙ take_split words at m)
    (spells_push size pieces ns (take at words) piece n h (length-take-le at words (omega arith) ∙ whole) number is (omega arith) (omega arith))

-- what is said of the lists of numbers is said of their words
pub found_each : (size : ℕ) (pieces lists views : List (List ℕ)) (ns words : List ℕ) (o : Option ℕ) → ArePieces pieces → AreSpelled size pieces lists →
    Spells size pieces ns words → joined_each pieces lists ≡ views →
    MatchOption o ((j : ℕ) → j < length lists → slice_index_or lists j [] ≡ ns → ⊥) (λ i. (i < length lists) × (slice_index_or lists i [] ≡ ns)) →
    MatchOption o ((j : ℕ) → j < length views → slice_index_or views j [] ≡ words → ⊥) (λ i. (i < length views) × (slice_index_or views i [] ≡ words))
found_each size pieces lists views ns words None are spelled h is none =
    λ j l same.
    let here : j < length lists = omega (arith, l, ap length is, length-each pieces lists) in
    let P : List ℕ → Type 0 = λ x. Spells size pieces (slice_index_or lists j []) x in
    let this : joined pieces (slice_index_or lists j []) ≡ words = each_at pieces lists j ∙ ap (λ x. slice_index_or x j []) is ∙ same in
    none j here (spells_alike size pieces (slice_index_or lists j []) ns words are (subst P this (spelled j here)) h)
found_each size pieces lists views ns words (Some i) are spelled h is found = (
  omega (arith, found.0, ap length is, length-each pieces lists),
  ap (λ x. slice_index_or x i []) (sym is) ∙ sym (each_at pieces lists i) ∙ ap (λ x. joined pieces x) found.1 ∙ spells_joined size pieces ns words h,
)

-- one more list of numbers
spelled_push : (size : ℕ) (pieces lists : List (List ℕ)) (ns words : List ℕ) → AreSpelled size pieces lists → Spells size pieces ns words → AreSpelled size pieces (lists ++ ns ∷ [])
spelled_push size pieces lists ns words spelled h = λ i l. elim (split_place (length lists) i (length (lists ++ ns ∷ [])) (length_push lists ns) l) [
  | inl k ↦
      let P : List ℕ → Type 0 = λ x. Spells size pieces x (joined pieces x) in
      subst P (sym (get_or_append_left lists (ns ∷ []) [] i k)) (spelled i k)
  | inr k ↦
      let P : List ℕ → Type 0 = λ x. Spells size pieces x (joined pieces x) in
      let Q : List ℕ → Type 0 = λ x. Spells size pieces ns x in
      subst P (sym (get_or_push lists ns [] i (sym k))) (subst Q (sym (spells_joined size pieces ns words h)) h)
]

pub spelled_after : {T E : Type 0} (size : ℕ) (pieces lists lists2 : List (List ℕ)) (ns words : List ℕ) (r : Result T E) → AreSpelled size pieces lists → Spells size pieces ns words →
    OnOk r (lists2 ≡ lists ++ ns ∷ []) → OnErr r (lists2 ≡ lists) → AreSpelled size pieces lists2
spelled_after size pieces lists lists2 ns words (Ok x) spelled h ok err =
    let P : List (List ℕ) → Type 0 = λ y. AreSpelled size pieces y in subst P (sym ok) (spelled_push size pieces lists ns words spelled h)
spelled_after size pieces lists lists2 ns words (Err x) spelled h ok err =
    let P : List (List ℕ) → Type 0 = λ y. AreSpelled size pieces y in subst P (sym err) spelled

pub pushed_each : (size : ℕ) (pieces lists lists2 views : List (List ℕ)) (ns words : List ℕ) → Spells size pieces ns words → joined_each pieces lists ≡ views →
    lists2 ≡ lists ++ ns ∷ [] → joined_each pieces lists2 ≡ views ++ words ∷ []
pushed_each size pieces lists lists2 views ns words h is more =
    ap (λ x. joined_each pieces x) more ∙ each_push pieces lists ns ∙ ap (λ x. x ++ joined pieces ns ∷ []) is
    ∙ ap (λ x. views ++ x ∷ []) (spells_joined size pieces ns words h)
