use Rattle.std.proofs.Common.{arith, ◌≡◌, ◌≢◌, ◌∙◌, ◌<◌, ◌≤◌, ◌+◌, ◌-◌, ◌&&◌, ◌++◌, ◌∷◌, [], ℕ, Bool, true, false, if◌then◌else◌, eqb, ltb, List, Option, None, Some, ap₂, get_or, length, length-take, map, refl, slice_index, subst, sym, take, true≢false, ⊎_elim}
use Rattle.std.proofs.lemmas.Bool.{cases_lt, eqb-false, le-ltb, lt-ltb, ltb-false, ltb-true, ne_eqb}
use Rattle.std.proofs.lemmas.List.{get_or_append_left, get_or_default, get_or_push, length-map, length_push, map-append, take-map, take_more}
use Rattle.std.proofs.lemmas.List.Elements.{All-push, All-take}
use Rattle.std.proofs.lemmas.List.Sorted.{IsNonDecreasingBy-push, IsNonDecreasingBy-take}
use Rattle.std.proofs.lemmas.Option.{none-some}
use Rattle.std.specs.List.Sorted.{IsNonDecreasing}
use Rattle.clap.specs.Words.{Text}
use Rattle.m161_order.specs.Delays.{delay_fault}
use Rattle.m161_order.specs.declared.delays.DelayError.{DelayError}
use Rattle.m161_order.specs.declared.delays.DelayError.TheVariants.{TooMany, Descending}
use Rattle.s161_command.specs.Delays.{AreNumbers, number_of}
use Rattle.s161_command.specs.Numbers.{IsNumber}
use Rattle.s161_command.specs.helpers.Delays.{CanFollow}

-- The parts of a list, one after the other.

neither : (a b : Bool) → ◌≡◌ {A = Option DelayError} (if a then Some TooMany else if b then Some Descending else None) None → (a ≡ false) × (b ≡ false)
neither true b e = absurd (none-some TooMany (sym e))
neither false true e = absurd (none-some Descending (sym e))
neither false false e = (refl, refl)

second_fails : (x y : Bool) → x ≡ true → (x && y) ≡ false → y ≡ false
second_fails true y t e = e
second_fails false y t e = absurd (true≢false (sym t))

not_both : (x y : Bool) → (x ≡ true → y ≡ false) → (x && y) ≡ false
not_both true y f = f refl
not_both false y f = refl

-- there is room behind these numbers, and the last one is at most n
abbrev HasRoom : List ℕ → ℕ → Type 0
HasRoom numbers n = (length numbers ≢ 64) × (0 < length numbers → slice_index numbers (length numbers - 1) ≤ n)

has_room : (numbers : List ℕ) (n : ℕ) → delay_fault numbers n ≡ None → HasRoom numbers n
has_room numbers n none =
    let last = slice_index numbers (length numbers - 1) in
    let apart = neither (eqb (length numbers) 64) (ltb 0 (length numbers) && ltb n last) none in (
      eqb-false (length numbers) 64 apart.0,
      λ some. ltb-false n last (second_fails (ltb 0 (length numbers)) (ltb n last) (lt-ltb 0 (length numbers) some) apart.1),
    )

no_fault : (numbers : List ℕ) (n : ℕ) → HasRoom numbers n → delay_fault numbers n ≡ None
no_fault numbers n room =
    let last = slice_index numbers (length numbers - 1) in
    ap₂ (λ a b. if a then Some TooMany else if b then Some Descending else None) (ne_eqb (length numbers) 64 room.0)
    (not_both (ltb 0 (length numbers)) (ltb n last) (λ some. le-ltb n last (room.1 (ltb-true 0 (length numbers) some))))

-- one more part
pub more : (parts : List Text) (part : Text) → AreNumbers parts → CanFollow (map number_of parts) part → AreNumbers (parts ++ part ∷ [])
more parts part are can =
    let numbers = map number_of parts in
    let room = has_room numbers (number_of part) can.1 in
    let long : length numbers ≡ length parts = length-map parts number_of in
    record {
      each = All-push IsNumber parts part are.each can.0;
      few =
          ⊎_elim (λ lt. omega (arith, lt, length_push parts part))
          (λ le. absurd (room.0 (omega (arith, le, long, are.few))))
          (cases_lt (length parts) 64);
      ascending =
          subst IsNonDecreasing (sym (map-append number_of parts (part ∷ [])))
          (IsNonDecreasingBy-push (λ n. n) numbers (number_of part) are.ascending
          (λ d some. omega (arith, room.1 some, get_or_default numbers (length numbers - 1) d 0 (omega (arith, some)))));
    }

follows : (parts : List Text) (part : Text) → AreNumbers (parts ++ part ∷ []) → CanFollow (map number_of parts) part
follows parts part are =
    let numbers = map number_of parts in
    let n = number_of part in
    let long : length numbers ≡ length parts = length-map parts number_of in
    let up = subst IsNonDecreasing (map-append number_of parts (part ∷ [])) are.ascending in (
      subst IsNumber (get_or_push parts part part (length parts) refl) (are.each (length parts) part (omega (arith, length_push parts part))),
      no_fault numbers n (
        (λ full. omega (arith, full, long, length_push parts part, are.few)),
        (λ some.
            omega (
              arith,
              up (length numbers - 1) (length numbers) 0 (omega arith) (omega (arith, length_push numbers n)),
              get_or_append_left numbers (n ∷ []) 0 (length numbers - 1) (omega (arith, some)),
              get_or_push numbers n 0 (length numbers) refl,
            )),
      ),
    )

first : (n : ℕ) (parts : List Text) → AreNumbers parts → AreNumbers (take n parts)
first n parts are = record {
  each = All-take IsNumber n parts are.each;
  few = omega (arith, length-take n parts, are.few);
  ascending = subst IsNonDecreasing (take-map number_of n parts) (IsNonDecreasingBy-take (λ x. x) n (map number_of parts) are.ascending);
}

-- a part that can't follow those before it
pub refuses : (all parts : List Text) (part : Text) (n : ℕ) → parts ≡ take n all → (n < length all) × (part ≡ get_or all n part)
    → ¬ CanFollow (map number_of parts) part → ¬ AreNumbers all
refuses all parts part n so_far here cannot are =
    let longer : take (n + 1) all ≡ parts ++ part ∷ [] =
    take_more all n part here.0 ∙ ap₂ (λ (xs : List Text) (x : Text). xs ++ x ∷ []) (sym so_far) (sym here.1) in
    cannot (follows parts part (subst AreNumbers longer (first (n + 1) all are)))
