use Rattle.std.proofs.Common.{◌≡◌, ◌∙◌, refl, sym, ap, subst, ℕ, zero, suc, ◌+◌, ◌-◌, ◌/◌, ◌%◌, ◌<◌, ◌≤◌, Bool, true, false, nat_le, List, [], ◌∷◌, ◌++◌, length, get_or, take, drop, Option, Result, Ok, Err, IfErr, OnOk, append_assoc, length-drop, take-append-drop, arith}
use Rattle.std.proofs.lemmas.List.{take-append-le, take_all}
use Rattle.std.proofs.Math.Seq.{take-append_seam, take-length}
use Rattle.std.proofs.lemmas.List.Concat.{flat_map-append}
use Rattle.std.proofs.lemmas.Bool.{leb-true, leb-false}
use Rattle.std.proofs.KnownBytes.{Appends-trans}
use Rattle.std.specs.Io.KnownBytes.{Appends}
use Rattle.std.specs.Result.{IsErrAnd}
use Rattle.m161_text.specs.Parts.{hex_digit, hex_text}
use Rattle.s161_base.specs.declared.fault.Fault.{Fault}
use Rattle.s161_base.specs.declared.fault.Fault.TheVariants.{Output}
use Rattle.s161_base.specs.FaultLines.{shown_byte, shown_name}
use Rattle.s161_base.specs.Streams.{AppendsSome}
use Rattle.s161_base.specs.helpers.Pieces.{Puts}

-- Texts that are written one after the other.

take_past : (xs ys : List ℕ) (n : ℕ) → take (length xs + n) (xs ++ ys) ≡ xs ++ take n ys
take_past [] ys n = let same : 0 + n ≡ n = omega arith in ap (λ k. take k ys) same
take_past (x ∷ xs) ys n =
    let more : suc (length xs) + n ≡ suc (length xs + n) = omega arith in
    ap (λ k. take k (x ∷ (xs ++ ys))) more ∙ ap (λ rest. x ∷ rest) (take_past xs ys n)

-- some of the second text
some_then : (a b c : Option (List ℕ)) (xs ys : List ℕ) → Appends a b xs → AppendsSome b c ys → AppendsSome a c (xs ++ ys)
some_then a b c xs ys first second = (
  length xs + second.0,
  subst (Appends a c) (sym (take_past xs ys second.0)) (Appends-trans a b c xs (take second.0 ys) first second.1),
)

-- some of the first
some_less : (a b : Option (List ℕ)) (xs ys : List ℕ) → AppendsSome a b xs → AppendsSome a b (xs ++ ys)
some_less a b xs ys h = by (nat_le h.0 (length xs)) refl
  where
    by : (t : Bool) → nat_le h.0 (length xs) ≡ t → AppendsSome a b (xs ++ ys)
    by true is = (h.0, subst (Appends a b) (sym (take-append-le h.0 xs ys (leb-true h.0 (length xs) is))) h.1)
    by false is =
        let more = leb-false h.0 (length xs) is in
        let long : length xs ≤ h.0 = omega (arith, more) in
        (length xs, subst (Appends a b) (take_all h.0 xs long ∙ sym (take-append_seam xs ys)) h.1)

-- the first was written, and of the second what the result says
pub puts_then : (a b c : Option (List ℕ)) (xs ys : List ℕ) (r : Result (Unit {0}) Fault) → Appends a b xs → Puts b ys r c →
    Puts a (xs ++ ys) r c
puts_then a b c xs ys (Ok u) first second = Appends-trans a b c xs ys first second
puts_then a b c xs ys (Err fault) first second = (second.0, some_then a b c xs ys first second.1)

-- it failed
pub puts_failed : (a b : Option (List ℕ)) (xs : List ℕ) (fault : Fault) (r : Result (Unit {0}) Fault) → Puts a xs (Err fault) b →
    IsErrAnd r (λ failed. failed ≡ fault) → Puts a xs r b
puts_failed a b xs fault (Ok u) h is = absurd is
puts_failed a b xs fault (Err failed) h is = (is ∙ h.0, h.1)

-- the first failed
pub puts_less : (a b : Option (List ℕ)) (xs ys : List ℕ) (fault : Fault) (r : Result (Unit {0}) Fault) → Puts a xs (Err fault) b →
    IsErrAnd r (λ failed. failed ≡ fault) → Puts a (xs ++ ys) r b
puts_less a b xs ys fault r h is = puts_failed a b (xs ++ ys) fault r (h.0, some_less a b xs ys h.1) is

-- the same text
pub puts_same : (a b : Option (List ℕ)) (xs ys : List ℕ) (r : Result (Unit {0}) Fault) → xs ≡ ys → Puts a xs r b → Puts a ys r b
puts_same a b xs ys r same h = subst (λ zs. Puts a zs r b) same h

-- where it failed
pub puts_err : (a b : Option (List ℕ)) (xs : List ℕ) (r : Result (Unit {0}) Fault) → Puts a xs r b → IfErr r (λ failed. (failed ≡ Output) × AppendsSome a b xs)
puts_err a b xs (Ok u) h = tt
puts_err a b xs (Err fault) h = h

-- whether it failed or not, some of the text was written
pub some_told : (a b : Option (List ℕ)) (xs : List ℕ) (r : Result (Unit {0}) Fault) → OnOk r (Appends a b xs)
    → IfErr r (λ failed. (failed ≡ Output) × AppendsSome a b xs) → AppendsSome a b xs
some_told a b xs (Ok u) ok err = (length xs, subst (Appends a b) (sym (take-length xs)) ok)
some_told a b xs (Err fault) ok err = err.1

-- a name's first bytes, and those after them
shown_parts : (n : ℕ) (name : List ℕ) → shown_name (take n name) ++ shown_name (drop n name) ≡ shown_name name
shown_parts n name = sym (flat_map-append shown_byte (take n name) (drop n name)) ∙ ap shown_name (take-append-drop n name)

-- a name's first bytes, the next one, and those after it
name_parts : (xs : List ℕ) (i : ℕ) → i < length xs
    → shown_name (take i xs) ++ (shown_byte (get_or xs i 0) ++ shown_name (drop (suc i) xs)) ≡ shown_name xs
name_parts [] i h = absurd (omega arith)
name_parts (x ∷ xs) zero h = refl
name_parts (x ∷ xs) (suc i) h =
    append_assoc (shown_byte x) (shown_name (take i xs)) _ ∙ ap (λ rest. shown_byte x ++ rest) (name_parts xs i (omega arith))

abbrev IsFailed : {T : Type 0} → Option (List ℕ) → List ℕ → Result T Fault → Option (List ℕ) → Type 0
IsFailed a xs r b = IfErr r (λ failed. (failed ≡ Output) × AppendsSome a b xs)

module _ {T : Type 0} (n : ℕ) (name : List ℕ) (fault : Fault) (plain : shown_name (take n name) ≡ take n name) where
  -- the first bytes, which are written as they are, failed
  pub front_failed : (a b : Option (List ℕ)) (r : Result T Fault) → (fault ≡ Output) × AppendsSome a b (take n name) →
      IsErrAnd r (λ failed. failed ≡ fault) → IsFailed a (shown_name name) r b
  front_failed a b (Ok x) h is = absurd is
  front_failed a b (Err failed) h is = (
    is ∙ h.0,
    subst (AppendsSome a b) (shown_parts n name) (some_less a b (shown_name (take n name)) (shown_name (drop n name)) (subst (AppendsSome a b) (sym plain) h.1)),
  )

  -- the next one failed
  pub next_failed : (a b c : Option (List ℕ)) (r : Result T Fault) → n < length name → Appends a b (take n name) →
      Puts b (shown_byte (get_or name n 0)) (Err fault) c → IsErrAnd r (λ failed. failed ≡ fault) → IsFailed a (shown_name name) r c
  next_failed a b c (Ok x) within first h is = absurd is
  next_failed a b c (Err failed) within first h is =
      let byte = shown_byte (get_or name n 0) in
      let rest = shown_name (drop (suc n) name) in (
        is ∙ h.0,
        subst (AppendsSome a c) (name_parts name n within)
            (some_then a b c (shown_name (take n name)) (byte ++ rest) (subst (Appends a b) (sym plain) first) (some_less b c byte rest h.1)),
      )

-- of a name some bytes are written, and then some more, or that fails
module _ (a b c : Option (List ℕ)) (name done rest : List ℕ) (first : Appends a b done) (is : done ++ shown_name rest ≡ shown_name name) where
  pub rest_failed : (fault : Fault) (r : Result (Unit {0}) Fault) → (fault ≡ Output) × AppendsSome b c (shown_name rest) →
      IsErrAnd r (λ failed. failed ≡ fault) → Puts a (shown_name name) r c
  rest_failed fault r h failed =
      puts_same a c (done ++ shown_name rest) (shown_name name) r is
      (puts_then a b c done (shown_name rest) r first (puts_failed b c (shown_name rest) fault r h failed))

  pub rest_goes_on : (n : ℕ) → Appends b c (shown_name (take n rest)) →
      (all : List ℕ) × Appends a c all × (all ++ shown_name (take (length rest - n) (drop n rest)) ≡ shown_name name)
  rest_goes_on n more =
      let front = shown_name (take n rest) in
      let left : take (length rest - n) (drop n rest) ≡ drop n rest = take_all (length rest - n) (drop n rest) (omega (arith, length-drop n rest)) in (
        done ++ front,
        Appends-trans a b c done front first more,
        ap (λ xs. (done ++ front) ++ shown_name xs) left ∙ append_assoc done front (shown_name (drop n rest))
            ∙ ap (λ xs. done ++ xs) (shown_parts n rest) ∙ is,
      )

-- the digits of a number, the last one behind the others
pub hex_last : (k n : ℕ) → 0 < k → hex_text (k - 1) (n / 16) ++ hex_digit (n % 16) ∷ [] ≡ hex_text k n
hex_last zero n some = absurd (omega arith)
hex_last (suc k) n some = let less : suc k - 1 ≡ k = omega arith in ap (λ j. hex_text j (n / 16) ++ hex_digit (n % 16) ∷ []) less
