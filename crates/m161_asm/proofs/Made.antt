use Rattle.std.specs.Prelude.{ℕ, ◌+◌, ◌*◌, ◌%◌, ◌^◌, ◌≤◌, ◌<◌, Bool, true, false, cond, ◌||◌, nat_lt, List, [], ◌∷◌, ◌++◌, length, reverse, replicate, Option, None, Some, Result, Ok, Err}
use Rattle.std.specs.List.{AllByRecursion}
use Rattle.std.proofs.Common.{◌≡◌, zero, suc, refl, ap, sym, ◌∙◌, subst, arith}
use Rattle.std.proofs.lemmas.Bool.Decides.{nat_tests}
use Rattle.std.proofs.lemmas.List.{length-append}
use Rattle.m161_asm.specs.Lines.{SourceFault, Statement, Nothing, Origin, Space, Entry, Words, Code, SourceLine, size_of}
use Rattle.m161_asm.specs.Text.{Segment, overlap, address_below, count_words, has_words, segments_in, new_segments, is_filled, origin_of, opened_at, onto_last, on_line, each, word_of_value, field_of, word_address, words_of_statement, segments_of, full}
use Rattle.m161_asm.specs.helpers.Lawful.{IsStatement, HasPlace, Lawful}
use Rattle.m161_asm.specs.Segments as segments
use Rattle.m161_asm.specs.Segments.{IsPlaced, ArePlaced, IsApart, AreApart}
use Rattle.m161_asm.specs.helpers.Segments.{AreSegments}
use Rattle.m161_asm.proofs.Filled.{full_more}
use Rattle.m161_asm.proofs.Lawfuls.{bound, same}

-- The segments of lawful lines keep the limits.

-- a statement has as many words as it takes
each_len : {A : Type 0} (f : A → Result ℕ SourceFault) (xs : List A) (ns : List ℕ) → each f xs ≡ Ok ns
    → length ns ≡ length xs
each_len f [] ns e = ap length (sym (same [] ns e))
each_len f (x ∷ xs) ns e =
    let a = bound (f x) _ ns e in
    let b = bound (each f xs) _ ns a.gives in
    let n = each_len f xs b.x b.read in
    subst (λ (ms : List ℕ). length ms ≡ length (x ∷ xs)) (same (a.x ∷ b.x) ns b.gives)
    (omega (arith, n))

zeros_len : (n : ℕ) → length {A = ℕ} (replicate n 0) ≡ n
zeros_len zero = refl
zeros_len (suc n) = let e = zeros_len n in omega (arith, e)

words_len : (symbols : List (List ℕ × ℕ)) (at : ℕ) (s : Statement) (ws : List ℕ)
    → words_of_statement symbols at s ≡ Ok ws → length ws ≡ size_of s
unfolding words_of_statement
words_len symbols at Nothing ws e = ap length (sym (same [] ws e))
words_len symbols at (Origin n) ws e = ap length (sym (same [] ws e))
words_len symbols at (Space n) ws e = ap length (sym (same (replicate n 0) ws e)) ∙ zeros_len n
words_len symbols at (Entry v) ws e =
    let a = bound (word_address symbols v) _ ws e in ap length (sym (same [] ws a.gives))
words_len symbols at (Words vs) ws e = each_len (word_of_value symbols) vs ws e
words_len symbols at (Code r ps) ws e =
    let a = bound (each (field_of symbols at) ps) _ ws e in ap length (sym (same _ ws a.gives))

-- runs of words that meet
grows : (s len m a n : ℕ)
    → (overlap (s + 4 * len) m a n || overlap s len a n) ≡ overlap s (len + m) a n
grows s len m a n = grind (arith, nat_tests)

mirrored : (a m b n : ℕ) → overlap a m b n ≡ overlap b n a m
mirrored a m b n = grind (arith, nat_tests)

abbrev any : List Segment → ℕ → ℕ → Bool
any [] a n = false
any (s ∷ ss) a n = overlap s.0 (length s.1) a n || any ss a n

or_grouped : (b c d : Bool) → (b || (c || d)) ≡ ((b || c) || d)
or_grouped true c d = refl
or_grouped false c d = refl

first_of : (b c : Bool) → (b || c) ≡ false → b ≡ false
first_of true c e = cc
first_of false c e = refl

second_of : (b c : Bool) → (b || c) ≡ false → c ≡ false
second_of true c e = cc
second_of false c e = e

widened : (s len m : ℕ) (older : List Segment)
    → AllByRecursion (λ (t : Segment). overlap s len t.0 (length t.1) ≡ false) older
    → any older (s + 4 * len) m ≡ false
    → AllByRecursion (λ (t : Segment). overlap s (len + m) t.0 (length t.1) ≡ false) older
widened s len m [] h f = tt
widened s len m (t ∷ older) (h, hs) f =
    let behind : overlap (s + 4 * len) m t.0 (length t.1)
    ≡ false = mirrored (s + 4 * len) m t.0 (length t.1) ∙ first_of _ _ f in (
      sym (grows s len m t.0 (length t.1))
          ∙ rw (behind, h) refl,
      widened s len m older hs (second_of _ _ f),
    )

empty_apart : (n : ℕ) (ss : List Segment) → AllByRecursion (IsApart (n, [])) ss
empty_apart n [] = tt
empty_apart n (s ∷ ss) = (refl, empty_apart n ss)

-- a segment that may have no words yet
abbrev IsEnded : Segment → Type 0
IsEnded s = (s.0 % 4 ≡ 0) × (0 < length s.1 → s.0 + 4 * length s.1 ≤ 2 ^ 32)

one_if : Bool → ℕ
one_if true = 1
one_if false = 0

full_one : (s : Segment) → length (full (s ∷ [])) ≡ cond (nat_lt 0 (length s.1)) 1 0
full_one s =
    elim (nat_lt 0 (length s.1)) as
    (λ b. length (reverse (cond b (s ∷ []) [])) ≡ cond b 1 0) [ true ↦ refl | false ↦ refl ]

full_len : (s : Segment) (older : List Segment)
    → length (full (s ∷ older)) ≡ length (full older) + cond (nat_lt 0 (length s.1)) 1 0
full_len s older =
    ap length (full_more s older) ∙ length-append (full older) (full (s ∷ []))
    ∙ ap (λ n. length (full older) + n) (full_one s)

-- what the segments of lines have, the last one first
record HasSegments (all : List SourceLine) (s : Segment) (older : List Segment) : Type 0 where
  pub end : s.0 + 4 * length s.1 ≡ address_below all
  pub ended : IsEnded s
  pub olds : AllByRecursion IsEnded older
  pub total : length s.1 + segments.word_count older ≡ count_words all
  pub some : nat_lt 0 (length s.1) ≡ has_words all
  pub count : length (full (s ∷ older)) ≡ segments_in all
  pub covers : (a n : ℕ) → is_filled all a n ≡ any (s ∷ older) a n
  pub apart : AreApart (s ∷ older)

abbrev HaveSegments : List SourceLine → List Segment → Type 0
HaveSegments all [] = ⊥
HaveSegments all (s ∷ older) = HasSegments all s older

longer : (len m : ℕ) → nat_lt 0 (len + m) ≡ (nat_lt 0 m || nat_lt 0 len)
longer len m = grind (arith, nat_tests)

counted : (len m k : ℕ)
    → k + cond (nat_lt 0 (len + m)) 1 0
    ≡ k + cond (nat_lt 0 len) 1 0 + new_segments m (nat_lt 0 len)
counted len m k = grind (arith, nat_tests)

-- a line's words join the last segment
joined : (above : List SourceLine) (l : SourceLine) (s : Segment) (older : List Segment)
    (ws : List ℕ)
    → HasSegments above s older → length ws ≡ size_of l.statement → HasPlace above l
    → HasSegments (record { label = l.label; statement = Space (size_of l.statement); column = l.column }
    ∷ above) (s.0, s.1 ++ ws) older
unfolding address_below is_filled
joined above l s older ws k n i =
    let m = size_of l.statement in
    let len : length (s.1 ++ ws) ≡ length s.1 + m = length-append s.1 ws
    ∙ ap (λ x. length s.1 + x) n in
    let none : any (s ∷ older) (address_below above) m
    ≡ false = sym (k.covers (address_below above) m) ∙ i.free in
    let here : any older (s.0 + 4 * length s.1) m
    ≡ false = rw k.end (second_of (overlap s.0 (length s.1) (address_below above) m) _ none) in
    record {
      end = omega (arith, len, k.end);
      ended = (k.ended.0, λ h. omega (arith, len, k.end, i.within));
      olds = k.olds;
      total = omega (arith, len, k.total);
      some = rw len (longer (length s.1) m ∙ ap (λ b. nat_lt 0 m || b) k.some);
      count =
          full_len (s.0, s.1 ++ ws) older ∙ rw len (counted (length s.1) m (length (full older)))
          ∙ ap (λ x. x + new_segments m (nat_lt 0 (length s.1))) (sym (full_len s older) ∙ k.count)
          ∙ ap (λ b. segments_in above + new_segments m b) k.some;
      covers =
          λ a x. ap (λ b. overlap (address_below above) m a x || b) (k.covers a x)
          ∙ or_grouped (overlap (address_below above) m a x) (overlap s.0 (length s.1) a x)
          (any older a x)
          ∙ ap (λ b. b || any older a x) (rw (← k.end, len) (grows s.0 (length s.1) m a x));
      apart = (
        subst (λ (x : ℕ). AllByRecursion
            (λ (t : Segment). overlap s.0 x t.0 (length t.1) ≡ false) older) (sym len) (widened
            s.0 (length s.1) m older k.apart.0 here),
        k.apart.1,
      );
    }

abbrev words_only : SourceLine → SourceLine
words_only l = record {
  label = l.label;
  statement = Space (size_of l.statement);
  column = l.column;
}

-- a line that stays in the segment, and one that opens another
stays : (above : List SourceLine) (l : SourceLine) (s : Segment) (older : List Segment)
    → origin_of l.statement ≡ None → HasSegments (words_only l ∷ above) s older → HasSegments (l ∷ above) s older
unfolding address_below is_filled
stays above l s older o k =
    record {
      end = rw o k.end;
      ended = k.ended;
      olds = k.olds;
      total = k.total;
      some = rw o k.some;
      count = k.count;
      covers = k.covers;
      apart = k.apart;
    }

leaves : (above : List SourceLine) (l : SourceLine) (n : ℕ) (s : Segment) (older : List Segment)
    → origin_of l.statement ≡ Some n → n % 4 ≡ 0 → HasSegments (words_only l ∷ above) s older
    → HasSegments (l ∷ above) (n, []) (s ∷ older)
unfolding address_below is_filled
leaves above l n s older o w k =
    record {
      end = rw o (omega arith);
      ended = (w, λ h. absurd (omega (arith, h)));
      olds = (k.ended, k.olds);
      total = omega (arith, k.total);
      some = rw o refl;
      count = full_len (n, []) (s ∷ older) ∙ omega (arith, k.count);
      covers = k.covers;
      apart = (empty_apart n (s ∷ older), k.apart);
    }

pub origin_multiple : (s : Statement) (n : ℕ) → IsStatement s → origin_of s ≡ Some n → n % 4 ≡ 0
origin_multiple (Origin k) n h e = let q : k ≡ n = cc in subst (λ (x : ℕ). x % 4 ≡ 0) q h
origin_multiple Nothing n h e = cc
origin_multiple (Space k) n h e = cc
origin_multiple (Entry v) n h e = cc
origin_multiple (Words vs) n h e = cc
origin_multiple (Code r ps) n h e = cc

line_on : (above : List SourceLine) (l : SourceLine) (s : Segment) (older : List Segment)
    (ws : List ℕ)
    (o : Option ℕ) → origin_of l.statement ≡ o → HasSegments above s older
    → length ws ≡ size_of l.statement → HasPlace above l
    → HaveSegments (l ∷ above) (opened_at o ((s.0, s.1 ++ ws) ∷ older))
line_on above l s older ws None o k n i =
    stays above l (s.0, s.1 ++ ws) older o (joined above l s older ws k n i)
line_on above l s older ws (Some x) o k n i =
    leaves above l x (s.0, s.1 ++ ws) older o (origin_multiple l.statement x i.statement o)
    (joined above l s older ws k n i)

off : (n : ℕ) (x : List ℕ) (r : Result (List ℕ) SourceFault) → on_line n r ≡ Ok x → r ≡ Ok x
off n x (Ok y) d = cc
off n x (Err f) d = cc

line_all : (above : List SourceLine) (l : SourceLine) (ss : List Segment) (ws : List ℕ)
    → HaveSegments above ss
    → length ws ≡ size_of l.statement → HasPlace above l
    → HaveSegments (l ∷ above) (opened_at (origin_of l.statement) (onto_last ws ss))
line_all above l [] ws k n i = absurd k
line_all above l (s ∷ older) ws k n i =
    line_on above l s older ws (origin_of l.statement) refl k n i

kept : (symbols : List (List ℕ × ℕ)) (all : List SourceLine) (ss : List Segment)
    → segments_of symbols all ≡ Ok ss → Lawful all → HaveSegments all ss
unfolding segments_of address_below is_filled
kept symbols [] ss e h =
    subst (HaveSegments []) (same ((0x80000200, []) ∷ []) ss e)
    (record {
      end = refl;
      ended = (refl, λ p. absurd (omega (arith, p)));
      olds = tt;
      total = refl;
      some = refl;
      count = refl;
      covers = λ a n. refl;
      apart = (tt, tt);
    })
kept symbols (l ∷ above) ss e (i, h) =
    let a = bound (segments_of symbols above) _ ss e in
    let b = bound
    (on_line (1 + length above) (words_of_statement symbols (address_below above) l.statement)) _ ss
    a.gives in
    let ws = off (1 + length above) b.x
    (words_of_statement symbols (address_below above) l.statement) b.read in
    subst (HaveSegments (l ∷ above))
    (same (opened_at (origin_of l.statement) (onto_last b.x a.x)) ss b.gives)
    (line_all above l a.x b.x (kept symbols above a.x a.read h)
    (words_len symbols (address_below above) l.statement b.x ws) i)

-- the same of the segments with words
total_append : (xs ys : List Segment)
    → segments.word_count (xs ++ ys) ≡ segments.word_count xs + segments.word_count ys
total_append [] ys = omega arith
total_append (x ∷ xs) ys = let e = total_append xs ys in omega (arith, e)

total_one : (s : Segment) → segments.word_count (full (s ∷ [])) ≡ length s.1
total_one s =
    elim (nat_lt 0 (length s.1)) as
    (λ b. nat_lt 0 (length s.1) ≡ b
    → segments.word_count (reverse (cond b (s ∷ []) [])) ≡ length s.1)
    [ true ↦ λ t. omega arith | false ↦ λ t. grind (arith, nat_tests, t) ] refl

total_full : (ss : List Segment) → segments.word_count (full ss) ≡ segments.word_count ss
total_full [] = refl
total_full (s ∷ ss) =
    let a = ap segments.word_count (full_more s ss) in
    let b = total_append (full ss) (full (s ∷ [])) in
    let c = total_one s in
    let d = total_full ss in
    omega (arith, a, b, c, d)

all_append : (P : Segment → Type 0) (xs ys : List Segment) → AllByRecursion P xs
    → AllByRecursion P ys → AllByRecursion P (xs ++ ys)
all_append P [] ys h k = k
all_append P (x ∷ xs) ys (h, hs) k = (h, all_append P xs ys hs k)

placed_one : (s : Segment) → IsEnded s → ArePlaced (full (s ∷ []))
placed_one s (m, f) =
    elim (nat_lt 0 (length s.1)) as
    (λ b. nat_lt 0 (length s.1) ≡ b → ArePlaced (reverse (cond b (s ∷ []) []))) [
      | true ↦ λ t. let p : 0 < length s.1 = grind (arith, nat_tests, t) in
          ((p, m, f p), tt)
      | false ↦ λ t. tt
    ] refl

placed_full : (ss : List Segment) → AllByRecursion IsEnded ss → ArePlaced (full ss)
placed_full [] h = tt
placed_full (s ∷ ss) (h, hs) =
    subst ArePlaced (sym (full_more s ss))
    (all_append IsPlaced (full ss) (full (s ∷ [])) (placed_full ss hs) (placed_one s h))

apart_one : (x s : Segment) → IsApart x s → AllByRecursion (IsApart x) (full (s ∷ []))
apart_one x s h =
    elim (nat_lt 0 (length s.1)) as
    (λ b. AllByRecursion (IsApart x) (reverse (cond b (s ∷ []) [])))
    [ true ↦ (h, tt) | false ↦ tt ]

apart_from : (x : Segment) (ss : List Segment) → AllByRecursion (IsApart x) ss
    → AllByRecursion (IsApart x) (full ss)
apart_from x [] h = tt
apart_from x (s ∷ ss) (h, hs) =
    subst (AllByRecursion (IsApart x)) (sym (full_more s ss))
    (all_append (IsApart x) (full ss) (full (s ∷ [])) (apart_from x ss hs) (apart_one x s h))

apart_single : (s : Segment) → AreApart (full (s ∷ []))
apart_single s =
    elim (nat_lt 0 (length s.1)) as
    (λ b. AreApart (reverse (cond b (s ∷ []) []))) [ true ↦ (tt, tt) | false ↦ tt ]

apart_append : (s : Segment) (xs : List Segment) → AreApart xs → AllByRecursion (IsApart s) xs
    → AreApart (xs ++ full (s ∷ []))
apart_append s [] h k = apart_single s
apart_append s (x ∷ xs) (h, hs) (k, ks) = (
  all_append (IsApart x) xs (full (s ∷ [])) h
      (apart_one x s (mirrored x.0 (length x.1) s.0 (length s.1) ∙ k)),
  apart_append s xs hs ks,
)

apart_full : (ss : List Segment) → AreApart ss → AreApart (full ss)
apart_full [] h = tt
apart_full (s ∷ ss) (h, hs) =
    subst AreApart (sym (full_more s ss))
    (apart_append s (full ss) (apart_full ss hs) (apart_from s ss h))

limits : (all : List SourceLine) → Lawful all → (count_words all ≤ 4194304) × (segments_in all ≤ 1024)
limits [] h = (omega arith, omega arith)
limits (l ∷ above) (i, h) = (i.words, i.segments)

pub are_segments : (symbols : List (List ℕ × ℕ)) (all : List SourceLine) (s : Segment)
    (older : List Segment) → segments_of symbols all ≡ Ok (s ∷ older) → Lawful all
    → AreSegments (full (s ∷ older))
are_segments symbols all s older e h =
    let k : HasSegments all s older = kept symbols all (s ∷ older) e h in
    let m = limits all h in
    let t = total_full (s ∷ older) in
    record {
      words = omega (arith, t, k.total, m.0);
      count = omega (arith, k.count, m.1);
      placed = placed_full (s ∷ older) (k.ended, k.olds);
      apart = apart_full (s ∷ older) k.apart;
    }
