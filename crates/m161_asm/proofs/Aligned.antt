use Rattle.std.specs.Prelude.{ℕ, ◌+◌, ◌-◌, ◌*◌, ◌%◌, ◌^◌, Bool, true, false, cond, ◌&&◌, ◌==◌, List, [], ◌∷◌, ◌++◌, Option, None, Some, Result, Ok, Err}
use Rattle.std.proofs.Common.{◌≡◌, refl, subst, arith}
use Rattle.std.proofs.lemmas.Bool.Decides.{Decides-eqb}
use Rattle.m161_asm.specs.Lines.{SourceFault, Value, Statement, Nothing, Origin, Space, Entry, Words, Code, Label, SourceLine, is_within, size_of}
use Rattle.m161_asm.specs.Text.{Segment, address_below, address_from, origin_of, symbol, symbols_in, number_of_value, word_address, first_address, or_address, entry_by, entry_of}
use Rattle.m161_asm.specs.helpers.Lawful.{IsStatement, Lawful}
use Rattle.m161_asm.specs.Segments.{AreAligned, ArePlaced}
use Rattle.m161_asm.proofs.Lawfuls.{bound, same}
use Rattle.m161_asm.proofs.Made.{origin_multiple}

-- The addresses of labels and the entry are multiples of 4.

address_from_is_multiple : (s : Statement) (o : Option ℕ) (a n : ℕ) → origin_of s ≡ o
    → IsStatement s → a % 4 ≡ 0 → address_from o (a + 4 * n) % 4 ≡ 0
address_from_is_multiple s None a n e i h = omega (arith, h)
address_from_is_multiple s (Some x) a n e i h = origin_multiple s x i e

address_is_multiple : (all : List SourceLine) → Lawful all → address_below all % 4 ≡ 0
unfolding address_below
address_is_multiple [] h = refl
address_is_multiple (l ∷ above) (i, h) =
    address_from_is_multiple l.statement (origin_of l.statement) (address_below above)
    (size_of l.statement) refl i.statement (address_is_multiple above h)

append_symbol : (symbols : List (List ℕ × ℕ)) (x : Label) (address : ℕ) → AreAligned symbols
    → address % 4 ≡ 0 → AreAligned (symbols ++ symbol x address)
append_symbol [] None address h a = tt
append_symbol [] (Some x) address h a = (a, tt)
append_symbol (s ∷ symbols) x address (h, hs) a = (h, append_symbol symbols x address hs a)

pub symbols_are_multiples : (all : List SourceLine) → Lawful all → AreAligned (symbols_in all)
unfolding symbols_in
symbols_are_multiples [] h = tt
symbols_are_multiples (l ∷ above) (i, h) =
    append_symbol (symbols_in above) l.label (address_below above) (symbols_are_multiples above h)
    (address_is_multiple above h)

target_is_multiple : (symbols : List (List ℕ × ℕ)) (v : Value) (n : ℕ)
    → word_address symbols v ≡ Ok n → n % 4 ≡ 0
unfolding word_address
target_is_multiple symbols v n e =
    let a = bound (number_of_value symbols v) _ n e in
    by (is_within 0 (2 ^ 32 - 1) a.x) (a.x.0 - a.x.1) _ a.gives
  where
    by : (t : Bool) (m : ℕ) (f : SourceFault)
        → cond {A = Result ℕ SourceFault} (t && (m % 4 == 0)) (Ok m) (Err f) ≡ Ok n → n % 4 ≡ 0
    by false m f d = cc
    by true m f d =
        elim (m % 4 == 0) as
        (λ b. (m % 4 == 0) ≡ b → cond {A = Result ℕ SourceFault} b (Ok m) (Err f) ≡ Ok n → n % 4 ≡ 0) [
          | true ↦ λ t g. subst (λ (k : ℕ). k % 4 ≡ 0) (same m n g) ((Decides-eqb (m % 4) 0).0 t)
          | false ↦ λ t g. cc
        ] refl d

or_is_multiple : (a : ℕ) (r : Result ℕ SourceFault) → a % 4 ≡ 0 → ((n : ℕ) → r ≡ Ok n → n % 4 ≡ 0)
    → or_address a r % 4 ≡ 0
or_is_multiple a (Ok n) h f = f n refl
or_is_multiple a (Err e) h f = h

entry_by_is_multiple : (symbols : List (List ℕ × ℕ)) (other : ℕ) (s : Statement)
    → other % 4 ≡ 0 → entry_by symbols other s % 4 ≡ 0
entry_by_is_multiple symbols other (Entry v) h =
    or_is_multiple other (word_address symbols v) h (target_is_multiple symbols v)
entry_by_is_multiple symbols other Nothing h = h
entry_by_is_multiple symbols other (Origin n) h = h
entry_by_is_multiple symbols other (Space n) h = h
entry_by_is_multiple symbols other (Words vs) h = h
entry_by_is_multiple symbols other (Code r ps) h = h

pub entry_is_multiple : (symbols : List (List ℕ × ℕ)) (first : ℕ) (all : List SourceLine)
    → first % 4 ≡ 0 → entry_of symbols first all % 4 ≡ 0
unfolding entry_of
entry_is_multiple symbols first [] h = h
entry_is_multiple symbols first (l ∷ above) h =
    entry_by_is_multiple symbols (entry_of symbols first above) l.statement
    (entry_is_multiple symbols first above h)

pub first_is_multiple : (ss : List Segment) → ArePlaced ss → first_address ss % 4 ≡ 0
first_is_multiple [] h = refl
first_is_multiple (s ∷ ss) (h, hs) = h.1
