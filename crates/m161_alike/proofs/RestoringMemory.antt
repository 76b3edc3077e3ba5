use Rattle.std.proofs.Common.{◌≡◌, ◌∙◌, refl, ap, sym, subst, ◌⊎◌, inl, inr, ℕ, zero, suc, ◌+◌, ◌-◌, ◌*◌, ◌/◌, ◌%◌, ◌^◌, ◌<◌, ◌≤◌, arith, Bool, true, false, List, [], ◌∷◌, ◌++◌, length, drop, get_or, set, ext_get_or, Fits, w8}
use Rattle.std.specs.Prelude.{◌≢◌, ◌==◌, All, flat_map, if◌then◌else◌, nat_le}
use Rattle.std.specs.List.{Contains, range_with_len}
use Rattle.std.proofs.lemmas.Bool.{cases_lt}
use Rattle.std.proofs.lemmas.Bool.Decides.{nat_tests}
use Rattle.std.proofs.lemmas.List.{drop_more, get_or-set_other, get_or-set_same, length-drop, length-set}
use Rattle.m161_ram.specs.Word.{with_word, word_at}
use Rattle.m161_alike.specs.Words.{AreBytes, memory_words, word_change}
use Rattle.m161_alike.proofs.Covering.{any_default, split_at}
use Rattle.m161_alike.specs.RestoredMemory.{AreWordsOfMemory, with_change, with_changes}

-- Memory that is made anew from its words.

-- the four bytes of a word at an address
record HasWord (l : List ℕ) (at word : ℕ) : Type 0 where
  b0 : get_or l at 0 ≡ word / 2 ^ 24
  b1 : get_or l (at + 1) 0 ≡ word / 2 ^ 16 % 2 ^ 8
  b2 : get_or l (at + 2) 0 ≡ word / 2 ^ 8 % 2 ^ 8
  b3 : get_or l (at + 3) 0 ≡ word % 2 ^ 8

bytes_of : (a b c d w : ℕ) → a < 256 → b < 256 → c < 256 → d < 256 → w ≡ a * 2 ^ 24 + b * 2 ^ 16 + c * 2 ^ 8 + d →
    (a ≡ w / 2 ^ 24) × (b ≡ w / 2 ^ 16 % 2 ^ 8) × (c ≡ w / 2 ^ 8 % 2 ^ 8) × (d ≡ w % 2 ^ 8)
bytes_of a b c d w ha hb hc hd is = (
  omega (arith, ha, hb, hc, hd, is),
  omega (arith, ha, hb, hc, hd, is),
  omega (arith, ha, hb, hc, hd, is),
  omega (arith, ha, hb, hc, hd, is),
)

has_word : (l : List ℕ) (at : ℕ) → AreBytes l → at + 4 ≤ length l → HasWord l at (word_at l at)
has_word l at p within =
    let h0 : at < length l = omega (arith, within) in
    let h1 : at + 1 < length l = omega (arith, within) in
    let h2 : at + 2 < length l = omega (arith, within) in
    let h3 : at + 3 < length l = omega (arith, within) in
    let bs = bytes_of (get_or l at 0) (get_or l (at + 1) 0) (get_or l (at + 2) 0) (get_or l (at + 3) 0) (word_at l at)
    (p.0 at 0 h0) (p.0 (at + 1) 0 h1) (p.0 (at + 2) 0 h2) (p.0 (at + 3) 0 h3) refl in
    record { b0 = bs.0; b1 = bs.1; b2 = bs.2; b3 = bs.3 }

-- a word that is written

less : (at k : ℕ) → at < k → at ≢ k
less at k h e = omega (arith, h, e)

more : (at k : ℕ) → k < at → at ≢ k
more at k h e = omega (arith, h, e)

has_written : (l : List ℕ) (at w : ℕ) → at + 4 ≤ length l → HasWord (with_word l at w) at w
has_written l at w within =
    let x0 = w / 2 ^ 24 in
    let x1 = w / 2 ^ 16 % 2 ^ 8 in
    let x2 = w / 2 ^ 8 % 2 ^ 8 in
    let x3 = w % 2 ^ 8 in
    let l0 = set l at x0 in
    let l1 = set l0 (at + 1) x1 in
    let l2 = set l1 (at + 2) x2 in
    let s0 : length l0 ≡ length l = length-set l at x0 in
    let s1 : length l1 ≡ length l = length-set l0 (at + 1) x1 ∙ s0 in
    let s2 : length l2 ≡ length l = length-set l1 (at + 2) x2 ∙ s1 in
    record {
      b0 = get_or-set_other l2 (at + 3) at x3 0 (less at (at + 3) (omega arith))
          ∙ get_or-set_other l1 (at + 2) at x2 0 (less at (at + 2) (omega arith))
          ∙ get_or-set_other l0 (at + 1) at x1 0 (less at (at + 1) (omega arith))
          ∙ get_or-set_same l at x0 0 (omega (arith, within));
      b1 = get_or-set_other l2 (at + 3) (at + 1) x3 0 (less (at + 1) (at + 3) (omega arith))
          ∙ get_or-set_other l1 (at + 2) (at + 1) x2 0 (less (at + 1) (at + 2) (omega arith))
          ∙ get_or-set_same l0 (at + 1) x1 0 (omega (arith, within, s0));
      b2 = get_or-set_other l2 (at + 3) (at + 2) x3 0 (less (at + 2) (at + 3) (omega arith))
          ∙ get_or-set_same l1 (at + 2) x2 0 (omega (arith, within, s1));
      b3 = get_or-set_same l2 (at + 3) x3 0 (omega (arith, within, s2));
    }

-- other bytes stay
abbrev IsOutside : ℕ → ℕ → Type 0
IsOutside at k = (k ≢ at) × (k ≢ at + 1) × (k ≢ at + 2) × (k ≢ at + 3)

others_stay : (l : List ℕ) (at w k : ℕ) → IsOutside at k → get_or (with_word l at w) k 0 ≡ get_or l k 0
others_stay l at w k out =
    let l0 = set l at (w / 2 ^ 24) in
    let l1 = set l0 (at + 1) (w / 2 ^ 16 % 2 ^ 8) in
    let l2 = set l1 (at + 2) (w / 2 ^ 8 % 2 ^ 8) in
    get_or-set_other l2 (at + 3) k (w % 2 ^ 8) 0 out.3
    ∙ get_or-set_other l1 (at + 2) k (w / 2 ^ 8 % 2 ^ 8) 0 out.2
    ∙ get_or-set_other l0 (at + 1) k (w / 2 ^ 16 % 2 ^ 8) 0 out.1
    ∙ get_or-set_other l at k (w / 2 ^ 24) 0 out.0

same_size : (l : List ℕ) (at w : ℕ) → length (with_word l at w) ≡ length l
same_size l at w =
    let l0 = set l at (w / 2 ^ 24) in
    let l1 = set l0 (at + 1) (w / 2 ^ 16 % 2 ^ 8) in
    let l2 = set l1 (at + 2) (w / 2 ^ 8 % 2 ^ 8) in
    length-set l2 (at + 3) (w % 2 ^ 8) ∙ length-set l1 (at + 2) (w / 2 ^ 8 % 2 ^ 8)
    ∙ length-set l0 (at + 1) (w / 2 ^ 16 % 2 ^ 8) ∙ length-set l at (w / 2 ^ 24)

-- memory that is m below an index, and boot from there on
record IsMixed (boot m now : List ℕ) (end : ℕ) : Type 0 where
  size : length now ≡ length m
  below : (k : ℕ) → k < end → get_or now k 0 ≡ get_or m k 0
  above : (k : ℕ) → end ≤ k → get_or now k 0 ≡ get_or boot k 0

-- bytes of the same word
same_at : (a b : List ℕ) (at w k r : ℕ) → r < 4 → k ≡ at + r → HasWord a at w → HasWord b at w → get_or a k 0 ≡ get_or b k 0
same_at a b at w k zero small is p q =
    let here : k ≡ at = omega (arith, is) in subst (λ j. get_or a j 0 ≡ get_or b j 0) (sym here) (p.b0 ∙ sym q.b0)
same_at a b at w k (suc zero) small is p q = subst (λ j. get_or a j 0 ≡ get_or b j 0) (sym is) (p.b1 ∙ sym q.b1)
same_at a b at w k (suc (suc zero)) small is p q = subst (λ j. get_or a j 0 ≡ get_or b j 0) (sym is) (p.b2 ∙ sym q.b2)
same_at a b at w k (suc (suc (suc zero))) small is p q = subst (λ j. get_or a j 0 ≡ get_or b j 0) (sym is) (p.b3 ∙ sym q.b3)
same_at a b at w k (suc (suc (suc (suc r)))) small is p q = absurd (let bad : ⊥ = omega (arith, small) in bad)

-- memory with one word of m more
mixed_on : (boot m now after : List ℕ) (at w : ℕ) → IsMixed boot m now at → length after ≡ length now → HasWord after at w → HasWord m at w →
    ((k : ℕ) → IsOutside at k → get_or after k 0 ≡ get_or now k 0) → IsMixed boot m after (at + 4)
mixed_on boot m now after at w h size p q others = record {
  size = size ∙ h.size;
  below = λ k inside. elim (cases_lt k at) [
    | inl before ↦ others k (less k at before, less k (at + 1) (omega (arith, before)), less k (at + 2) (omega (arith, before)), less k (at + 3) (omega (arith, before)))
        ∙ h.below k before
    | inr behind ↦ same_at after m at w k (k - at) (omega (arith, inside, behind)) (omega (arith, behind)) p q
  ];
  above = λ k past.
      others k (more k at (omega (arith, past)), more k (at + 1) (omega (arith, past)), more k (at + 2) (omega (arith, past)), more k (at + 3) (omega (arith, past)))
      ∙ h.above k (omega (arith, past));
}

-- a word that is written, and one that is there
mixed_written : (boot m now : List ℕ) (at : ℕ) → AreBytes m → at + 4 ≤ length m → IsMixed boot m now at →
    IsMixed boot m (with_word now at (word_at m at)) (at + 4)
mixed_written boot m now at p within h =
    let size = h.size in
    let inside : at + 4 ≤ length now = omega (arith, within, size) in
    mixed_on boot m now (with_word now at (word_at m at)) at (word_at m at) h (same_size now at (word_at m at))
    (has_written now at (word_at m at) inside) (has_word m at p within) (λ k out. others_stay now at (word_at m at) k out)

mixed_there : (boot m now : List ℕ) (at : ℕ) → AreBytes boot → AreBytes m → length m ≡ length boot → at + 4 ≤ length m →
    word_at m at ≡ word_at boot at → IsMixed boot m now at → IsMixed boot m now (at + 4)
mixed_there boot m now at p q size within same h =
    let inside : at + 4 ≤ length boot = omega (arith, within, size) in
    let b = has_word boot at p inside in
    let is : HasWord boot at (word_at m at) = subst (HasWord boot at) (sym same) b in
    mixed_on boot m now now at (word_at m at) h refl
    (record {
      b0 = h.above at (omega arith) ∙ is.b0;
      b1 = h.above (at + 1) (omega arith) ∙ is.b1;
      b2 = h.above (at + 2) (omega arith) ∙ is.b2;
      b3 = h.above (at + 3) (omega arith) ∙ is.b3;
    })
    (has_word m at q within) (λ k out. refl)

-- the words from place i on
abbrev changes : List ℕ → List ℕ → ℕ → ℕ → List ℕ
changes boot m i n = flat_map (λ j. word_change boot m (4 * j)) (range_with_len i n)

-- a change at an address of memory
changed : (now : List ℕ) (at w : ℕ) → at + 4 ≤ length now → with_change at w now ≡ with_word now at w
changed now at w within =
    let test : nat_le (at + 4) (length now) ≡ true = grind (arith, nat_tests, within) in
    ap (λ b. if b then with_word now at w else now) test

one_by : (test : Bool) (boot m now rest : List ℕ) (at end : ℕ) → AreBytes boot → AreBytes m → length m ≡ length boot → at + 4 ≤ length m →
    (word_at m at == word_at boot at) ≡ test → IsMixed boot m now at →
    ((after : List ℕ) → IsMixed boot m after (at + 4) → IsMixed boot m (with_changes rest after) end) →
    IsMixed boot m (with_changes ((if test then [] else at ∷ word_at m at ∷ []) ++ rest) now) end
one_by true boot m now rest at end p q size within is h on =
    let same : word_at m at ≡ word_at boot at = grind (arith, nat_tests, is) in
    on now (mixed_there boot m now at p q size within same h)
one_by false boot m now rest at end p q size within is h on =
    let long = h.size in
    let inside : at + 4 ≤ length now = omega (arith, within, long) in
    on (with_change at (word_at m at) now)
    (subst (λ l. IsMixed boot m l (at + 4)) (sym (changed now at (word_at m at) inside)) (mixed_written boot m now at q within h))

all_back : (boot m now : List ℕ) (i n : ℕ) → AreBytes boot → AreBytes m → length m ≡ length boot → 4 * (i + n) ≤ length m →
    IsMixed boot m now (4 * i) → IsMixed boot m (with_changes (changes boot m i n) now) (4 * (i + n))
all_back boot m now i zero p q size within h =
    let here : 4 * i ≡ 4 * (i + 0) = omega arith in subst (IsMixed boot m now) here h
all_back boot m now i (suc n) p q size within h =
    let next : 4 * i + 4 ≡ 4 * (i + 1) = omega arith in
    let last : 4 * (i + 1 + n) ≡ 4 * (i + suc n) = omega arith in
    let inside : 4 * i + 4 ≤ length m = omega (arith, within) in
    let left : 4 * (i + 1 + n) ≤ length m = omega (arith, within) in
    one_by (word_at m (4 * i) == word_at boot (4 * i)) boot m now (changes boot m (i + 1) n) (4 * i) (4 * (i + suc n)) p q size inside refl h
    (λ after mixed. subst (IsMixed boot m (with_changes (changes boot m (i + 1) n) after)) last
    (all_back boot m after (i + 1) n p q size left (subst (IsMixed boot m after) next mixed)))

memory_back : (boot m : List ℕ) → AreBytes boot → AreBytes m → length m ≡ length boot → with_changes (memory_words boot m) boot ≡ m
memory_back boot m p q size =
    let whole = q.1 in
    let within : 4 * (0 + length m / 4) ≤ length m = omega arith in
    let start : IsMixed boot m boot (4 * 0) = record {
      size = sym size;
      below = λ k none. absurd (let bad : ⊥ = omega (arith, none) in bad);
      above = λ k all. refl;
    } in
    let h = all_back boot m boot 0 (length m / 4) p q size within start in
    let long = h.size in
    ext_get_or 0 (with_changes (memory_words boot m) boot) m long (λ k inside. h.below k (omega (arith, inside, long, whole)))

pub memory_is : (boot words m : List ℕ) → AreWordsOfMemory boot words m → with_changes words boot ≡ m
memory_is boot words m h =
    ap (λ ws. with_changes ws boot) h.words_are ∙ memory_back boot m h.boot_bytes h.bytes h.size_is

-- the loop

pub two_more : (ws : List ℕ) (i : ℕ) → i + 2 ≤ length ws → drop i ws ≡ get_or ws i 0 ∷ get_or ws (i + 1) 0 ∷ drop (i + 2) ws
two_more ws i within =
    let there : i + 1 + 1 ≡ i + 2 = omega arith in
    drop_more ws i 0 (omega (arith, within))
    ∙ ap (λ l. get_or ws i 0 ∷ l)
    (drop_more ws (i + 1) 0 (omega (arith, within)) ∙ ap (λ n. get_or ws (i + 1) 0 ∷ drop n ws) there)

short : (xs memory : List ℕ) → length xs < 2 → with_changes xs memory ≡ memory
short [] memory few = refl
short (x ∷ []) memory few = refl
short (x ∷ y ∷ xs) memory few = absurd (let bad : ⊥ = omega (arith, few) in bad)

pub none_left : (ws memory : List ℕ) (i : ℕ) → length ws - i < 2 → with_changes (drop i ws) memory ≡ memory
none_left ws memory i few =
    let long = length-drop i ws in short (drop i ws) memory (omega (arith, few, long))

-- memory whose words at some addresses are made boot's

-- the words but those at these addresses are boot's
abbrev pub AreLeft : List ℕ → List ℕ → List ℕ → Type 0
AreLeft boot memory places =
    (at : ℕ) → at % 4 ≡ 0 → at + 4 ≤ length boot → (Contains places at → ⊥) → word_at memory at ≡ word_at boot at

again : (a b c d w : ℕ) → a ≡ w / 2 ^ 24 → b ≡ w / 2 ^ 16 % 2 ^ 8 → c ≡ w / 2 ^ 8 % 2 ^ 8 → d ≡ w % 2 ^ 8 →
    a * 2 ^ 24 + b * 2 ^ 16 + c * 2 ^ 8 + d ≡ w
again a b c d w ha hb hc hd = omega (arith, ha, hb, hc, hd)

written_word : (l : List ℕ) (at w : ℕ) → at + 4 ≤ length l → word_at (with_word l at w) at ≡ w
written_word l at w within =
    let h = has_written l at w within in
    let m = with_word l at w in
    again (get_or m at 0) (get_or m (at + 1) 0) (get_or m (at + 2) 0) (get_or m (at + 3) 0) w h.b0 h.b1 h.b2 h.b3

other_byte : (l : List ℕ) (at w k : ℕ) → (k < at) ⊎ (at + 4 ≤ k) → get_or (with_word l at w) k 0 ≡ get_or l k 0
other_byte l at w k (inl before) =
    others_stay l at w k
    (less k at before, less k (at + 1) (omega (arith, before)), less k (at + 2) (omega (arith, before)), less k (at + 3) (omega (arith, before)))
other_byte l at w k (inr behind) =
    others_stay l at w k
    (more k at (omega (arith, behind)), more k (at + 1) (omega (arith, behind)), more k (at + 2) (omega (arith, behind)), more k (at + 3) (omega (arith, behind)))

apart : (at other j : ℕ) → at % 4 ≡ 0 → other % 4 ≡ 0 → at ≢ other → j < 4 → (other + j < at) ⊎ (at + 4 ≤ other + j)
apart at other j al whole ne small = elim (cases_lt (other + j) at) [
  | inl before ↦ inl before
  | inr behind ↦ inr (omega (arith, al, whole, ne, small, behind))
]

other_word : (l : List ℕ) (at w other : ℕ) → at % 4 ≡ 0 → other % 4 ≡ 0 → at ≢ other → word_at (with_word l at w) other ≡ word_at l other
other_word l at w other al whole ne =
    let zero_more : other + 0 ≡ other = omega arith in
    let p = other_byte l at w other (subst (λ x. (x < at) ⊎ (at + 4 ≤ x)) zero_more (apart at other 0 al whole ne (omega arith))) in
    let q = other_byte l at w (other + 1) (apart at other 1 al whole ne (omega arith)) in
    let r = other_byte l at w (other + 2) (apart at other 2 al whole ne (omega arith)) in
    let s = other_byte l at w (other + 3) (apart at other 3 al whole ne (omega arith)) in
    λ i. p i * 2 ^ 24 + q i * 2 ^ 16 + r i * 2 ^ 8 + s i

left_by : (test : Bool) (boot memory ps : List ℕ) (p at : ℕ) → (p == at) ≡ test → AreLeft boot memory (p ∷ ps) → length memory ≡ length boot → p % 4 ≡ 0 →
    p + 4 ≤ length boot → at % 4 ≡ 0 → at + 4 ≤ length boot → (Contains ps at → ⊥) → word_at (with_word memory p (word_at boot p)) at ≡ word_at boot at
left_by true boot memory ps p at is h size al within whole inside out =
    let same : p ≡ at = grind (arith, nat_tests, is) in
    subst (λ x. word_at (with_word memory p (word_at boot p)) x ≡ word_at boot x) same
    (written_word memory p (word_at boot p) (omega (arith, within, size)))
left_by false boot memory ps p at is h size al within whole inside out =
    let ne : p ≢ at = grind (arith, nat_tests, is) in
    other_word memory p (word_at boot p) at al whole ne
    ∙ h at whole inside (λ c. elim (split_at p at ps c.0 c.1 c.2) [
      | inl same ↦ ne same
      | inr there ↦ out there
    ])

pub left_less : (boot memory places : List ℕ) (i : ℕ) → i < length places → AreLeft boot memory (drop i places) → length memory ≡ length boot →
    get_or places i 0 % 4 ≡ 0 → get_or places i 0 + 4 ≤ length boot →
    AreLeft boot (with_word memory (get_or places i 0) (word_at boot (get_or places i 0))) (drop (i + 1) places)
left_less boot memory places i inside h size al within =
    let p = get_or places i 0 in
    let first = subst (AreLeft boot memory) (drop_more places i 0 inside) h in
    λ at whole there out. left_by (p == at) boot memory (drop (i + 1) places) p at refl first size al within whole there out

pub same_length : (l : List ℕ) (at w : ℕ) → length (with_word l at w) ≡ length l
same_length = same_size

-- bytes of which all words are the same
pub all_same : (a b : List ℕ) → AreBytes a → AreBytes b → length b ≡ length a → ((at : ℕ) → at % 4 ≡ 0 → at + 4 ≤ length a → word_at a at ≡ word_at b at) → a ≡ b
all_same a b p q size same =
    let whole = p.1 in
    ext_get_or 0 a b (sym size) (λ k inside.
    let at = k / 4 * 4 in
    let within : at + 4 ≤ length a = omega (arith, inside, whole) in
    let x = has_word a at p within in
    let y = has_word b at q (omega (arith, within, size)) in
    same_at a b at (word_at a at) k (k % 4) (omega arith) (omega arith) x
    (subst (HasWord b at) (sym (same at (omega arith) within)) y))

pub bytes_fit : (bytes : List ℕ) → ((i : ℕ) → Fits w8 (get_or bytes i 0)) → All (λ byte. byte < 2 ^ 8) bytes
bytes_fit bytes fit = λ k d inside.
    let small : get_or bytes k 0 < 2 ^ 8 = (fit k).fits in
    let same = any_default bytes k d 0 inside in
    omega (arith, small, same)

pub none_more : (at : ℕ) (ps : List ℕ) (i : ℕ) → length ps ≤ i → Contains (drop i ps) at → ⊥
none_more at ps i past h =
    let long = length-drop i ps in
    let inside = h.1 in omega (arith, past, long, inside)
