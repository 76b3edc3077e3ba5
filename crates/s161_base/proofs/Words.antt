use Rattle.std.proofs.Common.{Bor, ◌≡◌, ◌∙◌, ℕ, suc, ◌+◌, ◌-◌, ◌<◌, ◌≤◌, Bool, true, false, not, ◌&&◌, ◌==◌, List, [], ◌∷◌, ◌++◌, length, get_or, take, drop, set, encode_utf8, inl, inr, refl, sym, ap, append_assoc, append-nil, arith}
use Rattle.std.specs.Prelude.{encode_utf8_all, option_map, slice_get, unwrap_or, Option, Some, codes}
use Rattle.std.specs.List.{list_all}
use Rattle.std.proofs.lemmas.Bool.{cases_lt, ne_eqb}
use Rattle.std.proofs.lemmas.Bool.Decides.{nat_tests}
use Rattle.std.proofs.lemmas.Grind.{take-set_at}
use Rattle.std.proofs.lemmas.List.{take_all}
use Rattle.std.proofs.lemmas.List.Concat.{flat_map-append}
use Rattle.std.proofs.lemmas.List.Folds.{list_all-append}
use Rattle.std.proofs.lemmas.Str.{encode_ascii, encodes-append}
use Rattle.s161_base.specs.Excerpts.{ends_word, is_word_end}
use Rattle.s161_base.specs.FaultLines.{in_brackets, quoted, shown_byte, shown_name}

-- The characters at a source's fault, one by one.

-- one more
more : (n : ℕ) (cs : List ℕ) (c : ℕ) → n < length cs → take (n + 1) (set cs n c) ≡ take n cs ++ c ∷ []
more n cs c below = take-set_at cs n (n + 1) c refl below

pub parts_more : (n : ℕ) (cs : List ℕ) (c : ℕ) (text left rest : List ℕ) → n < length cs
    → text ≡ encode_utf8_all (take n cs) ++ left → left ≡ encode_utf8 c ++ rest
    → text ≡ encode_utf8_all (take (n + 1) (set cs n c)) ++ rest
parts_more n cs c text left rest below parts next =
    let front = encode_utf8_all (take n cs) in
    let last : encode_utf8_all (c ∷ []) ≡ encode_utf8 c = append-nil (encode_utf8 c) in
    let all : encode_utf8_all (take (n + 1) (set cs n c)) ≡ front ++ encode_utf8 c =
    ap encode_utf8_all (more n cs c below) ∙ encodes-append (take n cs) (c ∷ []) ∙ ap (λ l. front ++ l) last in
    parts ∙ ap (λ l. front ++ l) next ∙ sym (append_assoc front (encode_utf8 c) rest) ∙ sym (ap (λ l. l ++ rest) all)

both : (a b : Bool) → a ≡ true → b ≡ true → (a && b) ≡ true
both true true first second = refl
both true false first second = second
both false b first second = first

pub inside_more : (n : ℕ) (cs : List ℕ) (c : ℕ) → n < length cs
    → list_all (λ d. not (is_word_end d)) (take n cs) ≡ true → is_word_end c ≡ false
    → list_all (λ d. not (is_word_end d)) (take (n + 1) (set cs n c)) ≡ true
inside_more n cs c below so_far goes_on =
    let fits : ℕ → Bool = λ d. not (is_word_end d) in
    ap (list_all fits) (more n cs c below) ∙ list_all-append fits (take n cs) (c ∷ [])
    ∙ both (list_all fits (take n cs)) (list_all fits (c ∷ [])) so_far (both (fits c) true (ap not goes_on) refl)

-- a character that ends them is one byte
high_goes_on : (c : ℕ) → 128 ≤ c → is_word_end c ≡ false
high_goes_on c high =
    rw (ne_eqb c 32 (λ e. omega arith), ne_eqb c 9 (λ e. omega arith), ne_eqb c 44 (λ e. omega arith), ne_eqb c 35 (λ e. omega arith)) refl

pub ends_here : (c : ℕ) (left rest : List ℕ) → left ≡ encode_utf8 c ++ rest → is_word_end c ≡ true → ends_word left ≡ true
ends_here c left rest next ends = elim (cases_lt c 128) [
  | inl small ↦ ap ends_word (next ∙ ap (λ l. l ++ rest) (encode_ascii c small)) ∙ ends
  | inr high ↦ absurd (no (sym (high_goes_on c high) ∙ ends))
]
  where
    no : false ≡ true → ⊥
    no e = cc

pub ends_with_text : (left : List ℕ) → length left ≡ 0 → ends_word left ≡ true
ends_with_text [] none = refl
ends_with_text (b ∷ bs) none = absurd (omega (arith, none))

-- what is shown of them
pub none_quoted : (cs : List ℕ) → length cs ≡ 0 → quoted cs ≡ codes " at the line's end"
none_quoted [] none = refl
none_quoted (c ∷ cs) none = absurd (omega (arith, none))

pub some_quoted : (cs : List ℕ) → 0 < length cs → codes ": \"" ++ (shown_name (encode_utf8_all cs) ++ codes "\"") ≡ quoted cs
some_quoted [] some = absurd (omega (arith, some))
some_quoted (c ∷ cs) some = refl

-- a line among those of a text, as many before it as are passed over
pub line_behind : (lines rest : List (List ℕ)) (line : List ℕ) (n i : ℕ) → i < n → lines ≡ line ∷ rest
    → slice_get lines (n - i) ≡ slice_get rest (n - (i + 1))
line_behind lines rest line n i below first =
    let next : n - i ≡ suc (n - (i + 1)) = omega (arith, below) in
    ap (λ ls. slice_get ls (n - i)) first ∙ ap (λ k. slice_get (line ∷ rest) k) next

pub no_line : (lines : List (List ℕ)) (k : ℕ) → lines ≡ [] → unwrap_or (slice_get lines k) [] ≡ []
no_line lines k none = ap (λ ls. unwrap_or (slice_get ls k) []) none

-- the characters of a list, the first one and those behind it
pub rest_shown : (rest : List ℕ) (c : ℕ) → 1 ≤ length rest → c ≡ get_or rest 0 c
    → encode_utf8_all rest ≡ encode_utf8 c ++ encode_utf8_all (take (length rest - 1) (drop 1 rest))
rest_shown [] c some is = absurd (omega (arith, some))
rest_shown (x ∷ xs) c some is =
    let left : take (suc (length xs) - 1) xs ≡ xs = take_all (suc (length xs) - 1) xs (omega arith) in
    ap (λ d. encode_utf8 d ++ encode_utf8_all xs) (sym is) ∙ ap (λ l. encode_utf8 c ++ encode_utf8_all l) (sym left)

pub rest_put : (rest : List ℕ) (c : ℕ) → 1 ≤ length rest → c ≡ get_or rest 0 c
    → shown_name (encode_utf8 c) ++ shown_name (encode_utf8_all (take (length rest - 1) (drop 1 rest)))
    ≡ shown_name (encode_utf8_all rest)
rest_put rest c some is =
    let behind = encode_utf8_all (take (length rest - 1) (drop 1 rest)) in
    sym (ap shown_name (rest_shown rest c some is) ∙ flat_map-append shown_byte (encode_utf8 c) behind)

-- no characters, or some
pub is_none : (cs : List ℕ) → (length cs == 0) ≡ true → length cs ≡ 0
is_none cs none = grind (arith, nat_tests)

pub is_some_of : (cs : List ℕ) → (length cs == 0) ≡ false → 0 < length cs
is_some_of cs some = grind (arith, nat_tests)

-- an explanation in brackets, with what it ends with
pub bracketed : (found : Option (List ℕ)) (why detail : List ℕ) → found ≡ Some why
    → codes " (" ++ ((why ++ detail) ++ codes ")") ≡ in_brackets (option_map (λ text. text ++ detail) found)
bracketed found why detail is = sym (ap (λ o. in_brackets (option_map (λ text. text ++ detail) o)) is)

pub shown_now : (given : Option (Bor (List ℕ))) (text : Bor (List ℕ)) (found : Option (List ℕ))
    → option_map (λ t. t.now) given ≡ found → given ≡ Some text → found ≡ Some text.now
shown_now given text found same is = sym same ∙ ap (λ o. option_map (λ t. t.now) o) is
