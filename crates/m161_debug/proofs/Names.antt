-- Names for addresses.
use Rattle.std.proofs.Common.{◌≡◌, ◌≢◌, ◌∙◌, inl, inr, ℕ, zero, suc, ◌+◌, ◌<◌, ◌≤◌, ◌^◌, List, [], ◌∷◌, ◌++◌, length, take, drop, refl, sym, ap, ap₂, subst, arith, codes, Option, None, Some, Bor, length-append}
use Rattle.std.specs.Option.{SomeIff}
use Rattle.std.specs.Prelude.{MatchOption}
use Rattle.std.specs.Str.Pattern.{RFindsChar}
use Rattle.std.proofs.lemmas.Bool.Decides.{nat_tests}
use Rattle.std.proofs.lemmas.List.{append_cancel_left, get_or_at, take-append-drop}
use Rattle.std.proofs.lemmas.Option.{none-some, same_Some}
use Rattle.std.proofs.lemmas.Str.Pattern.{NoCharPasses-char, drop_at_char}
use Rattle.m161_symbols.specs.Names.{value_in}
use Rattle.m161_text.specs.Parts.{◌␣◌, Lacks, hex_digit, hex_text}
use Rattle.m161_text.proofs.Hex.{hex_text_at, hex_text_same, length-hex_text}
use Rattle.m161_text.proofs.Parts.{not_spaced}
use Rattle.m161_debug.specs.Commands.{IsAddress, IsBehind, IsHex, IsNamed, IsPlace}
use Rattle.m161_debug.specs.helpers.Reading.{CutsLast, Finds}
use Rattle.m161_debug.proofs.Parts.{address_lacks, says_nothing, x_is_no_digit}

pub place_lacks : (symbols : List (List ℕ × ℕ)) (n : ℕ) (text : List ℕ) → IsPlace symbols n text
    → Lacks 32 text
place_lacks symbols n text (inl is) = address_lacks n text is
place_lacks symbols n text (inr is) = is.0.0

-- `rsplit_once` cuts
pub cuts_last : (c : ℕ) (bs : List ℕ) (r : Option (Bor (List ℕ) × Bor (List ℕ)))
    → MatchOption r (RFindsChar c bs None)
    (λ x. (i : ℕ) × (j : ℕ) × RFindsChar c bs (Some (i, j)) × (x.0.now ≡ take i bs)
    × (x.1.now ≡ drop j bs) × (i ≤ j) × (length x.0.now ≡ i) × (length x.1.now + j ≡ length bs))
    → c < 128 → CutsLast c bs r
cuts_last c bs None h low = λ i within. NoCharPasses-char c bs i h low within
cuts_last c bs (Some x) h low =
    let i = h.0 in
    let j = h.1 in
    let lacks : Lacks c (drop j bs) = λ k within.
    NoCharPasses-char c (drop j bs) k h.2.0 low within in
    let here : drop i bs ≡ c ∷ drop j bs = drop_at_char c bs i j h.2.1 low in
    let whole : bs ≡ x.0.now ++ c ∷ x.1.now =
    sym (take-append-drop i bs) ∙ ap (λ d. take i bs ++ d) here
    ∙ ap₂ (λ a b. a ++ c ∷ b) (sym h.3) (sym h.4) in (subst (Lacks c) (sym h.4) lacks, whole)

-- a text has one last c
has_one : (c : ℕ) (a b : List ℕ) → Lacks c (a ++ c ∷ b) → ⊥
has_one c a b lacks =
    lacks (length a) (simp length-append (omega arith)) (get_or_at a c b 0 (length a) refl)

last_same : (c : ℕ) (a a' b b' : List ℕ) → Lacks c b → Lacks c b' → a ++ c ∷ b ≡ a' ++ c ∷ b'
    → (a ≡ a') × (b ≡ b')
last_same c [] [] b b' h h' e = (refl, (cc))
last_same c [] (x ∷ a') b b' h h' e =
    let is : b ≡ a' ++ c ∷ b' = cc in absurd (has_one c a' b' (subst (Lacks c) is h))
last_same c (x ∷ a) [] b b' h h' e =
    let is : b' ≡ a ++ c ∷ b = cc in absurd (has_one c a b (subst (Lacks c) is h'))
last_same c (x ∷ a) (y ∷ a') b b' h h' e =
    let rest : a ++ c ∷ b ≡ a' ++ c ∷ b' = cc in
    let same = last_same c a a' b b' h h' rest in
    let head : x ≡ y = cc in
    let front : a ≡ a' = same.0 in ((cc), same.1)

-- an address has no +
no_plus_digit : (d : ℕ) → d < 16 → hex_digit d ≡ 43 → ⊥
no_plus_digit d small e = grind (arith, nat_tests)

hex_lacks_plus : (k n : ℕ) → Lacks 43 (hex_text k n)
hex_lacks_plus k n i within e =
    let digit = hex_text_at k n i (omega (arith, within, length-hex_text k n)) in
    no_plus_digit digit.0 digit.1 (sym digit.2 ∙ e)

two_more_lack : (c a b : ℕ) (bs : List ℕ) → a ≢ c → b ≢ c → Lacks c bs → Lacks c (a ∷ b ∷ bs)
two_more_lack c a b bs first second rest zero lt e = first e
two_more_lack c a b bs first second rest (suc zero) lt e = second e
two_more_lack c a b bs first second rest (suc (suc i)) lt e = rest i (omega arith) e

hex_lacks : (k n : ℕ) (text : List ℕ) → IsHex k n text → Lacks 43 text
hex_lacks k n text (inl is) = subst (Lacks 43) (sym is) (hex_lacks_plus k n)
hex_lacks k n text (inr is) =
    subst (Lacks 43) (sym is)
    (two_more_lack 43 48 120 (hex_text k n) (λ e. omega (arith, e)) (λ e. omega (arith, e))
    (hex_lacks_plus k n))

distance_lacks : (n : ℕ) (text : List ℕ) → IsAddress n text → Lacks 43 text
distance_lacks n text is = hex_lacks is.0 n text is.4

-- what is behind a symbol
pub no_plus : (symbols : List (List ℕ × ℕ)) (text : List ℕ) → Lacks 43 text
    → Finds (IsBehind symbols) text None
no_plus symbols text lacks =
    says_nothing (λ v is. has_one 43 is.name is.distance (subst (Lacks 43) is.text_is lacks))

parts_same : (symbols : List (List ℕ × ℕ)) (text a b : List ℕ) (v : ℕ)
    → Lacks 43 b × (text ≡ a ++ 43 ∷ b) → (is : IsBehind symbols v text)
    → (is.name ≡ a) × (is.distance ≡ b)
parts_same symbols text a b v cut is =
    last_same 43 is.name a is.distance b (distance_lacks is.bytes is.distance is.distance_is) cut.0
    (sym is.text_is ∙ cut.1)

pub no_value : (symbols : List (List ℕ × ℕ)) (text a b : List ℕ)
    → Lacks 43 b × (text ≡ a ++ 43 ∷ b) → value_in symbols a ≡ None
    → Finds (IsBehind symbols) text None
no_value symbols text a b cut none =
    says_nothing (λ v is.
    none-some is.value
    (sym none ∙ ap (value_in symbols) (sym (parts_same symbols text a b v cut is).0) ∙ is.value_is))

pub no_distance : (symbols : List (List ℕ × ℕ)) (text a b : List ℕ)
    → Lacks 43 b × (text ≡ a ++ 43 ∷ b) → Finds IsAddress b None
    → Finds (IsBehind symbols) text None
no_distance symbols text a b cut finds =
    says_nothing (λ v is.
    finds.none is.bytes
    (subst (IsAddress is.bytes) (parts_same symbols text a b v cut is).1 is.distance_is))

-- an address has one value
digits_same : (k l m n : ℕ) → m < 16 ^ k → n < 16 ^ l → hex_text k m ≡ hex_text l n → m ≡ n
digits_same k l m n small low e =
    let long : l ≡ k = sym (length-hex_text l n) ∙ ap length (sym e) ∙ length-hex_text k m in
    hex_text_same k m n small (subst (λ j. n < 16 ^ j) long low) (e ∙ ap (λ j. hex_text j n) long)

hex_same : (k l m n : ℕ) (text : List ℕ) → m < 16 ^ k → n < 16 ^ l → IsHex k m text
    → IsHex l n text → m ≡ n
hex_same k l m n text small low (inl a) (inl b) = digits_same k l m n small low (sym a ∙ b)
hex_same k l m n text small low (inl a) (inr b) =
    absurd (x_is_no_digit k m (hex_text l n) (sym b ∙ a))
hex_same k l m n text small low (inr a) (inl b) =
    absurd (x_is_no_digit l n (hex_text k m) (sym a ∙ b))
hex_same k l m n text small low (inr a) (inr b) =
    digits_same k l m n small low
    (append_cancel_left (codes "0x") (hex_text k m) (hex_text l n) (sym a ∙ b))

address_same : (m n : ℕ) (text : List ℕ) → IsAddress m text → IsAddress n text → m ≡ n
address_same m n text a b = hex_same a.0 b.0 m n text a.3 b.3 a.4 b.4

-- so many bytes behind a symbol, if that is an address
pub too_far : (symbols : List (List ℕ × ℕ)) (text a b : List ℕ) (value bytes : ℕ)
    → Lacks 43 b × (text ≡ a ++ 43 ∷ b) → value_in symbols a ≡ Some value → IsAddress bytes b
    → 2 ^ 32 ≤ value + bytes → Finds (IsBehind symbols) text None
too_far symbols text a b value bytes cut valued is far =
    says_nothing (λ v other.
    let same = parts_same symbols text a b v cut other in
    let first : other.value ≡ value = same_Some _ _
    (sym other.value_is ∙ ap (value_in symbols) same.0 ∙ valued) in
    let second : other.bytes ≡ bytes =
    address_same other.bytes bytes b (subst (IsAddress other.bytes) same.1 other.distance_is) is in
    let sum = other.address_is in
    let fits = other.fits in
    omega (arith, first, second, sum, fits, far))

pub is_behind : (symbols : List (List ℕ × ℕ)) (text a b : List ℕ) (value bytes address : ℕ)
    → Lacks 43 b × (text ≡ a ++ 43 ∷ b) → value_in symbols a ≡ Some value → IsAddress bytes b
    → address ≡ value + bytes → address < 2 ^ 32 → Finds (IsBehind symbols) text (Some address)
is_behind symbols text a b value bytes address cut valued is sum low = record {
  found = record {
    name = a;
    distance = b;
    value = value;
    bytes = bytes;
    text_is = cut.1;
    value_is = valued;
    distance_is = is;
    address_is = sum;
    fits = low;
  };
  none = tt;
}

pub sum_found : (symbols : List (List ℕ × ℕ)) (text a b : List ℕ) (value bytes : ℕ) (r : Option ℕ)
    → Lacks 43 b × (text ≡ a ++ 43 ∷ b) → value_in symbols a ≡ Some value → IsAddress bytes b
    → SomeIff r (value + bytes < 2 ^ 32) (value + bytes) → Finds (IsBehind symbols) text r
sum_found symbols text a b value bytes None cut valued is sum =
    too_far symbols text a b value bytes cut valued is (omega (arith, sum))
sum_found symbols text a b value bytes (Some address) cut valued is sum =
    is_behind symbols text a b value bytes address cut valued is sum.1 (omega (arith, sum.0, sum.1))

-- a name
pub named_by_symbol : (symbols : List (List ℕ × ℕ)) (text : List ℕ) (value : ℕ)
    → value_in symbols text ≡ Some value → Finds (IsNamed symbols) text (Some value)
named_by_symbol symbols text value is = record { found = inl is; none = tt }

pub named_behind : (symbols : List (List ℕ × ℕ)) (text : List ℕ) (r : Option ℕ)
    → value_in symbols text ≡ None → Finds (IsBehind symbols) text r
    → Finds (IsNamed symbols) text r
named_behind symbols text (Some v) none finds = record { found = inr (none, finds.found); none = tt }
named_behind symbols text None none finds = says_nothing (λ v is. by v is)
  where
    by : (v : ℕ) → IsNamed symbols v text → ⊥
    by v (inl is) = none-some v (sym none ∙ is)
    by v (inr is) = finds.none v is.1

-- an address, or a name
pub by_address : (symbols : List (List ℕ × ℕ)) (text : List ℕ) (n : ℕ) → IsAddress n text
    → Finds (IsPlace symbols) text (Some n)
by_address symbols text n is = record { found = inl is; none = tt }

pub by_name : (symbols : List (List ℕ × ℕ)) (text : List ℕ) (r : Option ℕ) → Lacks 32 text
    → Finds IsAddress text None → Finds (IsNamed symbols) text r → Finds (IsPlace symbols) text r
by_name symbols text (Some v) lacks none finds = record {
  found = inr ((lacks, λ n is. none.none n is), finds.found);
  none = tt;
}
by_name symbols text None lacks none finds = says_nothing (λ v is. by v is)
  where
    by : (v : ℕ) → IsPlace symbols v text → ⊥
    by v (inl is) = none.none v is
    by v (inr is) = finds.none v is.1

pub no_word : (symbols : List (List ℕ × ℕ)) (text a b : List ℕ) → text ≡ a ␣ b
    → Finds (IsPlace symbols) text None
no_word symbols text a b cut =
    says_nothing (λ v is. not_spaced text a b (place_lacks symbols v text is) cut)
