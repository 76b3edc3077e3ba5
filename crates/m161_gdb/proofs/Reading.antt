-- Bytes as pieces, a byte more at a time.
use Rattle.std.proofs.Common.{◌≡◌, ◌≢◌, ℕ, ◌%◌, ◌+◌, List, [], ◌∷◌, ◌++◌, subst, refl, sym, ap, ◌∙◌, arith, inl, inr, Option, Some, None, Result, Ok, Err, MatchResult, append_assoc}
use Rattle.std.proofs.lemmas.List.{append-nil}
use Rattle.std.proofs.lemmas.List.Concat.{flat_map-append}
use Rattle.std.specs.List.{flat_map, AllByRecursion, sum}
use Rattle.std.specs.Option.{option_to_list}
use Rattle.m161_gdb.specs.declared.frames.Item.{Item}
use Rattle.m161_gdb.specs.declared.frames.Item.TheVariants as items
use Rattle.m161_gdb.specs.declared.frames.Reader.{Reader}
use Rattle.m161_gdb.specs.declared.frames.Stage.TheVariants as stages
use Rattle.m161_gdb.specs.Frames.{Begun, Closed, Halfway, HasRead, IsPiece, IsReading, Nothing, Opening, Piece, Single, Whole, byte_value, has_value, body_of, items_in, kept, opening_text, piece_text}
use Rattle.m161_gdb.specs.helpers.Steps.{Ends, Grows, Steps}
use Rattle.m161_gdb.proofs.Bytes.{body_anew, body_more, has_more, sum_more}

all_more : (pieces : List Piece) (piece : Piece) → AllByRecursion IsPiece pieces → IsPiece piece → AllByRecursion IsPiece (pieces ++ piece ∷ [])
all_more [] piece each one = (one, tt)
all_more (p ∷ pieces) piece each one = (each.0, all_more pieces piece each.1 one)

one_more : {X A : Type 0} (f : X → List A) (xs : List X) (x : X) → flat_map f (xs ++ x ∷ []) ≡ flat_map f xs ++ f x
one_more f xs x = flat_map-append f xs (x ∷ []) ∙ ap (λ ys. flat_map f xs ++ ys) (append-nil (f x))

-- a beginning grows
pub grown : (bytes : List ℕ) (found : List Item) (pieces : List Piece) (opening next : Opening) (b : ℕ)
    → IsReading bytes found pieces opening → Grows opening b next → IsReading (bytes ++ b ∷ []) found pieces next
grown bytes found pieces opening next b reading grows = record {
  text = ap (λ bs. bs ++ b ∷ []) reading.text ∙ append_assoc (flat_map piece_text pieces) (opening_text opening) (b ∷ []) ∙ ap (λ bs. flat_map piece_text pieces ++ bs) grows.1;
  each = reading.each;
  last = grows.0;
  items = reading.items;
}

-- or becomes a piece
pub ended : (bytes : List ℕ) (found : List Item) (pieces : List Piece) (opening : Opening) (piece : Piece) (b : ℕ)
    → IsReading bytes found pieces opening → Ends opening b piece → IsReading (bytes ++ b ∷ []) (found ++ items_in piece) (pieces ++ piece ∷ []) Nothing
ended bytes found pieces opening piece b reading ends = record {
  text =
      ap (λ bs. bs ++ b ∷ []) reading.text ∙ append_assoc (flat_map piece_text pieces) (opening_text opening) (b ∷ [])
      ∙ ap (λ bs. flat_map piece_text pieces ++ bs) ends.1 ∙ sym (one_more piece_text pieces piece) ∙ sym (append-nil (flat_map piece_text (pieces ++ piece ∷ [])));
  each = all_more pieces piece reading.each ends.0;
  last = tt;
  items = ap (λ is. is ++ items_in piece) reading.items ∙ sym (one_more items_in pieces piece);
}

-- what a reader has read, with a byte more
read_on : (old new : Reader) (b : ℕ) (item : Option Item) (bytes : List ℕ) (found : List Item)
    → Steps old b new item → HasRead old bytes found → HasRead new (bytes ++ b ∷ []) (found ++ option_to_list item)
unfolding Steps
read_on old new b item bytes found steps read = elim (steps read.opening read.reading.last read.stands) [
  | inl it ↦ record {
    pieces = read.pieces;
    opening = it.0;
    reading = rw (it.3, append-nil) (grown bytes found read.pieces read.opening it.0 b read.reading it.1);
    stands = it.2;
  }
  | inr it ↦ record {
    pieces = read.pieces ++ it.0 ∷ [];
    opening = Nothing;
    reading = rw it.3 (ended bytes found read.pieces read.opening it.0 b read.reading it.1);
    stands = it.2;
  }
]

pub pushed : {E : Type 0} (old new : Reader) (b : ℕ) (r : Result (Option Item) E)
    → MatchResult r (λ item. Steps old b new item) (λ _. new ≡ old)
    → MatchResult r (λ item. (bytes : List ℕ) (found : List Item) → HasRead old bytes found → HasRead new (bytes ++ b ∷ []) (found ++ option_to_list item)) (λ _. new ≡ old)
pushed old new b (Ok item) steps = λ bytes found read. read_on old new b item bytes found steps read
pushed old new b (Err e) same = same

pub nothing_read : (reader : Reader) → reader.stage ≡ stages.Between → HasRead reader [] []
nothing_read reader stage = record {
  pieces = [];
  opening = Nothing;
  reading = record { text = refl; each = tt; last = tt; items = refl };
  stands = stage;
}

-- The steps of a reader.

opens_at : (old new : Reader) → old.stage ≡ stages.Between → new.stage ≡ stages.InBody → new.sum ≡ 0 → new.body ≡ Some [] → Steps old 36 new None
unfolding Steps
opens_at old new was stage sum body Nothing is stands = inl (Begun [], (refl, refl), (stage, (body, sum)), refl)
opens_at old new was stage sum body (Begun inner) is stands = absurd (cc)
opens_at old new was stage sum body (Closed inner) is stands = absurd (cc)
opens_at old new was stage sum body (Halfway inner x) is stands = absurd (cc)

-- a `$` between frames
pub opens : (old new : Reader) (b : ℕ) → old.stage ≡ stages.Between → b ≡ 36 → new.stage ≡ stages.InBody → new.sum ≡ 0 → new.body ≡ Some [] → Steps old b new None
opens old new b was is stage sum body = subst (λ n. Steps old n new None) (sym is) (opens_at old new was stage sum body)

-- another byte there
pub stays : (old new : Reader) (b : ℕ) (item : Option Item) → old.stage ≡ stages.Between → b ≢ 36 → new.stage ≡ stages.Between → option_to_list item ≡ items_in (Single b) → Steps old b new item
unfolding Steps
stays old new b item was other stage is Nothing last stands = inr (Single b, (other, refl), stage, is)
stays old new b item was other stage is (Begun inner) last stands = absurd (cc)
stays old new b item was other stage is (Closed inner) last stands = absurd (cc)
stays old new b item was other stage is (Halfway inner x) last stands = absurd (cc)

anew_at : (old new : Reader) → old.stage ≡ stages.InBody → new.stage ≡ stages.InBody → new.sum ≡ 0 → new.body ≡ Some [] → Steps old 36 new None
unfolding Steps
anew_at old new was stage sum_is body Nothing is stands = absurd (cc)
anew_at old new was stage sum_is body (Begun inner) is stands =
    inl (Begun (inner ++ 36 ∷ []), (has_more 35 36 inner is (λ e. absurd (omega (arith, e))), refl), (stage, (body ∙ sym (ap kept (body_anew inner)), sum_is ∙ sym (ap (λ bs. sum bs % 256) (body_anew inner)))), refl)
anew_at old new was stage sum_is body (Closed inner) is stands = absurd (cc)
anew_at old new was stage sum_is body (Halfway inner x) is stands = absurd (cc)

-- a `$` in a body
pub anew : (old new : Reader) (b : ℕ) → old.stage ≡ stages.InBody → b ≡ 36 → new.stage ≡ stages.InBody → new.sum ≡ 0 → new.body ≡ Some [] → Steps old b new None
anew old new b was is stage sum body = subst (λ n. Steps old n new None) (sym is) (anew_at old new was stage sum body)

closes_at : (old new : Reader) → old.stage ≡ stages.InBody → new.stage ≡ stages.AtSum → new.sum ≡ old.sum → new.body ≡ old.body → Steps old 35 new None
unfolding Steps
closes_at old new was stage sum body Nothing is stands = absurd (cc)
closes_at old new was stage sum body (Begun inner) is stands = inl (Closed inner, (is, refl), (stage, (body ∙ stands.1.0, sum ∙ stands.1.1)), refl)
closes_at old new was stage sum body (Closed inner) is stands = absurd (cc)
closes_at old new was stage sum body (Halfway inner x) is stands = absurd (cc)

-- its `#`
pub closes : (old new : Reader) (b : ℕ) → old.stage ≡ stages.InBody → b ≡ 35 → new.stage ≡ stages.AtSum → new.sum ≡ old.sum → new.body ≡ old.body → Steps old b new None
closes old new b was is stage sum body = subst (λ n. Steps old n new None) (sym is) (closes_at old new was stage sum body)

-- another byte of it
pub adds : (old new : Reader) (b : ℕ) → old.stage ≡ stages.InBody → b ≢ 36 → b ≢ 35 → new.stage ≡ stages.InBody → new.sum ≡ (old.sum + b) % 256
    → ((bytes : List ℕ) → old.body ≡ kept bytes → new.body ≡ kept (bytes ++ b ∷ [])) → Steps old b new None
unfolding Steps
adds old new b was other unclosed stage sum_is body Nothing is stands = absurd (cc)
adds old new b was other unclosed stage sum_is body (Begun inner) is stands =
    let total : sum (body_of (inner ++ b ∷ [])) ≡ sum (body_of inner) + b = ap sum (body_more inner b other) ∙ sum_more (body_of inner) b in
    let before : old.sum ≡ sum (body_of inner) % 256 = stands.1.1 in
    inl (Begun (inner ++ b ∷ []), (has_more 35 b inner is unclosed, refl), (stage, (body (body_of inner) stands.1.0 ∙ sym (ap kept (body_more inner b other)), omega arith)), refl)
adds old new b was other unclosed stage sum_is body (Closed inner) is stands = absurd (cc)
adds old new b was other unclosed stage sum_is body (Halfway inner x) is stands = absurd (cc)

-- the first digit of its sum
pub halves : (old new : Reader) (b : ℕ) → old.stage ≡ stages.AtSum → new.stage ≡ stages.InSum b → new.sum ≡ old.sum → new.body ≡ old.body → Steps old b new None
unfolding Steps
halves old new b was stage sum body Nothing is stands = absurd (cc)
halves old new b was stage sum body (Begun inner) is stands = absurd (cc)
halves old new b was stage sum body (Closed inner) is stands =
    inl (Halfway inner b, (is, ap (λ bs. 36 ∷ bs) (append_assoc inner (35 ∷ []) (b ∷ []))), (stage, (body ∙ stands.1.0, sum ∙ stands.1.1)), refl)
halves old new b was stage sum body (Halfway inner x) is stands = absurd (cc)

-- and the second
pub finishes : (old new : Reader) (x b : ℕ) (item : Item) → old.stage ≡ stages.InSum x → new.stage ≡ stages.Between
    → item ≡ items.Frame old.body (has_value (byte_value x b) old.sum) → Steps old b new (Some item)
unfolding Steps
finishes old new x b item was stage same Nothing is stands = absurd (cc)
finishes old new x b item was stage same (Begun inner) is stands = absurd (cc)
finishes old new x b item was stage same (Closed inner) is stands = absurd (cc)
finishes old new x b item was stage same (Halfway inner y) is stands =
    let first : x ≡ y = cc in
    inr (
      Whole inner y b,
      (is, ap (λ bs. 36 ∷ bs) (append_assoc inner (35 ∷ y ∷ []) (b ∷ []))),
      stage,
      ap (λ i. i ∷ []) same
          ∙ ap (λ n. items.Frame old.body (has_value (byte_value n b) old.sum) ∷ []) first
          ∙ ap (λ s. items.Frame old.body (has_value (byte_value y b) s) ∷ []) stands.1.1
          ∙ ap (λ z. items.Frame z (has_value (byte_value y b) (sum (body_of inner) % 256)) ∷ []) stands.1.0,
    )
