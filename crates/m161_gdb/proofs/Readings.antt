-- Laws of the items of bytes.
use Rattle.std.proofs.Common.{◌≡◌, ◌≢◌, ◌⊎◌, ℕ, ◌<◌, ◌+◌, ◌*◌, ◌/◌, ◌%◌, List, [], ◌∷◌, ◌++◌, Bool, true, false, eqb, eqb-true, eq-eqb, refl, sym, ap, ap₂, ◌∙◌, arith, inl, inr, Option, Some, append_assoc}
use Rattle.std.proofs.lemmas.Bool.Decides.{nat_tests}
use Rattle.std.proofs.lemmas.List.{append-nil}
use Rattle.std.specs.List.{flat_map, AllByRecursion, sum}
use Rattle.m161_text.specs.Parts.{hex_digit}
use Rattle.m161_gdb.specs.declared.frames.Item.{Item}
use Rattle.m161_gdb.specs.declared.frames.Item.TheVariants as items
use Rattle.m161_gdb.specs.Frames.{Begun, Closed, FramesAreRead, Halfway, HasItems, HasOneReading, IsOpening, IsPiece, IsReadAs, ItemsStay, Nothing, Opening, Piece, Single, Whole, both_digits, byte_value, frame_text, has_value, hex_value, items_in, kept, opening_text, piece_text}
use Rattle.m161_gdb.specs.helpers.Steps.{Ends, Grows}
use Rattle.m161_gdb.proofs.Bytes.{body_whole, cut, has_more, kept_short, not_there}
use Rattle.m161_gdb.proofs.Reading.{ended, grown}

not_equal : (b c : ℕ) → eqb b c ≡ false → b ≢ c
not_equal b c e = λ same. let wrong : true ≡ false = sym (eq-eqb b c same) ∙ e in absurd (cc)

-- any byte may come next
any_step : (opening : Opening) (b : ℕ) → IsOpening opening → ((next : Opening) × Grows opening b next) ⊎ ((piece : Piece) × Ends opening b piece)
any_step Nothing b is = by (eqb b 36) refl
  where
    by : (t : Bool) → eqb b 36 ≡ t → ((next : Opening) × Grows Nothing b next) ⊎ ((piece : Piece) × Ends Nothing b piece)
    by true e = inl (Begun [], (refl, ap (λ n. n ∷ []) (eqb-true b 36 e)))
    by false e = inr (Single b, (not_equal b 36 e, refl))
any_step (Begun inner) b is = by (eqb b 35) refl
  where
    by : (t : Bool) → eqb b 35 ≡ t → ((next : Opening) × Grows (Begun inner) b next) ⊎ ((piece : Piece) × Ends (Begun inner) b piece)
    by true e = inl (Closed inner, (is, ap (λ n. 36 ∷ inner ++ n ∷ []) (eqb-true b 35 e)))
    by false e = inl (Begun (inner ++ b ∷ []), (has_more 35 b inner is (not_equal b 35 e), refl))
any_step (Closed inner) b is = inl (Halfway inner b, (is, ap (λ bs. 36 ∷ bs) (append_assoc inner (35 ∷ []) (b ∷ []))))
any_step (Halfway inner x) b is = inr (Whole inner x b, (is, ap (λ bs. 36 ∷ bs) (append_assoc inner (35 ∷ x ∷ []) (b ∷ []))))

read_one : (front : List ℕ) (found : List Item) (b : ℕ) → IsReadAs front found → (more : List Item) × IsReadAs (front ++ b ∷ []) (found ++ more)
read_one front found b (pieces, opening, reading) = elim (any_step opening b reading.last) [
  | inl it ↦ let read : IsReadAs (front ++ b ∷ []) (found ++ []) = (pieces, it.0, rw append-nil (grown front found pieces opening it.0 b reading it.1)) in ([], read)
  | inr it ↦ let read : IsReadAs (front ++ b ∷ []) (found ++ items_in it.0) = (pieces ++ it.0 ∷ [], Nothing, ended front found pieces opening it.0 b reading it.1) in (items_in it.0, read)
]

-- bytes behind others add to their items
read_all : (bytes front : List ℕ) (found : List Item) → IsReadAs front found → (more : List Item) × IsReadAs (front ++ bytes) (found ++ more)
read_all [] front found read =
    let same : IsReadAs (front ++ []) (found ++ []) = rw (append-nil front, append-nil found) read in
    ([], same)
read_all (b ∷ bytes) front found read =
    let one = read_one front found b read in
    let rest = read_all bytes (front ++ b ∷ []) (found ++ one.0) one.1 in
    let whole : IsReadAs (front ++ b ∷ bytes) (found ++ (one.0 ++ rest.0)) = rw (← append_assoc front (b ∷ []) bytes, ← append_assoc found one.0 rest.0) rest.1 in
    (one.0 ++ rest.0, whole)

empty_read : IsReadAs [] []
empty_read = ([], Nothing, record { text = refl; each = tt; last = tt; items = refl })

pub has_items : HasItems
has_items bytes = read_all bytes [] [] empty_read

-- One reading.

whole_text : (inner : List ℕ) (x y : ℕ) (rest last : List ℕ) → ((inner ++ 35 ∷ x ∷ y ∷ []) ++ rest) ++ last ≡ inner ++ 35 ∷ x ∷ y ∷ (rest ++ last)
whole_text inner x y rest last = simp append_assoc

-- no beginning has a piece in it
not_whole : (opening : Opening) (piece : Piece) (rest last : List ℕ) → IsOpening opening → IsPiece piece → opening_text opening ≡ (piece_text piece ++ rest) ++ last → ⊥
not_whole Nothing (Single b) rest last is one e = cc
not_whole Nothing (Whole inner x y) rest last is one e = cc
not_whole (Begun i) (Single b) rest last is one e = one (cc)
not_whole (Begun i) (Whole inner x y) rest last is one e =
    let tail : i ≡ ((inner ++ 35 ∷ x ∷ y ∷ []) ++ rest) ++ last = cc in
    not_there 35 inner (x ∷ y ∷ (rest ++ last)) i is (tail ∙ whole_text inner x y rest last)
not_whole (Closed i) (Single b) rest last is one e = one (cc)
not_whole (Closed i) (Whole inner x y) rest last is one e =
    let tail : i ++ 35 ∷ [] ≡ ((inner ++ 35 ∷ x ∷ y ∷ []) ++ rest) ++ last = cc in
    let same = (cut 35 i inner [] (x ∷ y ∷ (rest ++ last)) is one (tail ∙ whole_text inner x y rest last)).1 in
    cc
not_whole (Halfway i z) (Single b) rest last is one e = one (cc)
not_whole (Halfway i z) (Whole inner x y) rest last is one e =
    let tail : i ++ 35 ∷ z ∷ [] ≡ ((inner ++ 35 ∷ x ∷ y ∷ []) ++ rest) ++ last = cc in
    let same = (cut 35 i inner (z ∷ []) (x ∷ y ∷ (rest ++ last)) is one (tail ∙ whole_text inner x y rest last)).1 in
    cc

same_pieces : (ps qs : List Piece) (o p : Opening) → AllByRecursion IsPiece ps → AllByRecursion IsPiece qs → IsOpening o → IsOpening p
    → flat_map piece_text ps ++ opening_text o ≡ flat_map piece_text qs ++ opening_text p → ps ≡ qs
same_pieces [] [] o p ps-are qs-are o-is p-is e = refl
same_pieces [] (q ∷ qs) o p ps-are qs-are o-is p-is e = absurd (not_whole o q (flat_map piece_text qs) (opening_text p) o-is qs-are.0 e)
same_pieces (r ∷ ps) [] o p ps-are qs-are o-is p-is e = absurd (not_whole p r (flat_map piece_text ps) (opening_text o) p-is ps-are.0 (sym e))
same_pieces (Single b ∷ ps) (Single c ∷ qs) o p ps-are qs-are o-is p-is e =
    let head : b ≡ c = cc in
    ap₂ (λ (n : ℕ) (rs : List Piece). Single n ∷ rs) head (same_pieces ps qs o p ps-are.1 qs-are.1 o-is p-is (cc))
same_pieces (Single b ∷ ps) (Whole inner x y ∷ qs) o p ps-are qs-are o-is p-is e = absurd (ps-are.0 (cc))
same_pieces (Whole inner x y ∷ ps) (Single c ∷ qs) o p ps-are qs-are o-is p-is e = absurd (qs-are.0 (cc))
same_pieces (Whole i x y ∷ ps) (Whole j z w ∷ qs) o p ps-are qs-are o-is p-is e =
    let tail : ((i ++ 35 ∷ x ∷ y ∷ []) ++ flat_map piece_text ps) ++ opening_text o ≡ ((j ++ 35 ∷ z ∷ w ∷ []) ++ flat_map piece_text qs) ++ opening_text p = cc in
    let same = cut 35 i j (x ∷ y ∷ (flat_map piece_text ps ++ opening_text o)) (z ∷ w ∷ (flat_map piece_text qs ++ opening_text p)) ps-are.0 qs-are.0
    (sym (whole_text i x y (flat_map piece_text ps) (opening_text o)) ∙ tail ∙ whole_text j z w (flat_map piece_text qs) (opening_text p)) in
    let inner : i ≡ j = same.0 in
    let back : x ∷ y ∷ (flat_map piece_text ps ++ opening_text o) ≡ z ∷ w ∷ (flat_map piece_text qs ++ opening_text p) = same.1 in
    let high : x ≡ z = cc in
    let low : y ≡ w = cc in
    let rest : ps ≡ qs = same_pieces ps qs o p ps-are.1 qs-are.1 o-is p-is (cc) in
    cc

pub has_one_reading : HasOneReading
has_one_reading bytes a b (ps, o, read) (qs, p, other) =
    read.items ∙ ap (flat_map items_in) (same_pieces ps qs o p read.each other.each read.last other.last (sym read.text ∙ other.text)) ∙ sym other.items

pub items_stay : ItemsStay
items_stay front back a b read whole =
    let more = read_all back front a read in
    (more.0, has_one_reading (front ++ back) b (a ++ more.0) whole more.1)

-- Frames that are sent.

digit_read : (d : ℕ) → d < 16 → hex_value (hex_digit d) ≡ Some d
digit_read d small = grind (arith, nat_tests)

written : (s : ℕ) → s < 256 → has_value (byte_value (hex_digit (s / 16 % 16)) (hex_digit (s % 16))) s ≡ true
written s small =
    ap₂ (λ (h l : Option ℕ). has_value (both_digits h l) s) (digit_read (s / 16 % 16) (omega arith)) (digit_read (s % 16) (omega arith))
    ∙ eq-eqb (16 * (s / 16 % 16) + s % 16) s (omega arith)

pub frames_are_read : FramesAreRead
frames_are_read body unclosed other short =
    let s : ℕ = sum body % 256 in
    let right : has_value (byte_value (hex_digit (s / 16 % 16)) (hex_digit (s % 16))) s ≡ true = written s (omega arith) in
    let same = body_whole body other in
    let high : ℕ = hex_digit (s / 16 % 16) in
    let low : ℕ = hex_digit (s % 16) in (
      Whole body high low ∷ [],
      Nothing,
      record {
        text = sym (append-nil (frame_text body ++ []) ∙ append-nil (frame_text body));
        each = (unclosed, tt);
        last = tt;
        items =
            ap₂ (λ (z : Option (List ℕ)) (r : Bool). items.Frame z r ∷ []) (sym (kept_short body short)) (sym right)
            ∙ ap (λ (bs : List ℕ). items.Frame (kept bs) (has_value (byte_value high low) (sum bs % 256)) ∷ []) (sym same);
      },
    )
