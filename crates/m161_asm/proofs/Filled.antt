use Rattle.std.specs.Prelude.{ℕ, zero, suc, ◌+◌, ◌-◌, List, [], ◌∷◌, ◌++◌, length, take, replicate, ◌*◌, Result, Ok, Err, unwrap_or, Option, Some, true, false, cond, nat_lt, reverse, filter}
use Rattle.m161_asm.specs.declared.second.SecondPass.{SecondPass}
use Rattle.m161_asm.specs.Lines.{SourceFault, SourceLine, Statement, size_of}
use Rattle.m161_asm.specs.Text.{Segment, segments_of, opened_at, words_of_statement, address_below, address_from, entry_of, entry_by, origin_of, full}
use Rattle.m161_asm.specs.helpers.Seen.{with_front, fault_seen, AddsNumbers}
use Rattle.m161_asm.specs.declared.statement.ReadError.{ReadError}
use Rattle.m161_asm.specs.declared.statement.ReadError.TheVariants as errors
use Rattle.std.proofs.lemmas.List.{reverse-append}
use mathlib.Core.List.{append-nil}
use Rattle.m161_asm.specs.Segments.{segment_seen, segments_seen}
use Rattle.m161_asm.specs.helpers.SecondPass.{IsFilled, FillsLine, AdvancesPass}
use Rattle.std.proofs.Common.{◌≡◌, refl, ap, sym, ◌∙◌, arith}

-- The segments of the second pass.

whole_taken : (xs : List ℕ) (n : ℕ) → take (length xs + n) xs ≡ xs
whole_taken [] zero = refl
whole_taken [] (suc n) = let e : length {A = ℕ} [] + suc n ≡ suc n = omega arith in rw e refl
whole_taken (x ∷ xs) n =
    let e : length (x ∷ xs) + n ≡ suc (length xs + n) = omega arith in
    rw e (ap (λ t. x ∷ t) (whole_taken xs n))

pub padded : (xs new : List ℕ) (len n : ℕ) → len ≡ length xs
    → new ≡ take (len + n) xs ++ replicate (len + n - len) 0 → xs ++ replicate n 0 ≡ new
padded xs new len n l e =
    let d : len + n - len ≡ n = omega arith in
    sym (e ∙ rw (l, whole_taken xs n) (ap (λ k. xs ++ replicate k 0) (omega (arith, l))))

-- the words of a line more
record Read (front new : List ℕ) (read : Result (List ℕ) SourceFault) : Type 0 where
  pub words : List ℕ
  pub gives : read ≡ Ok words
  pub joined : front ++ words ≡ new

read_of : (front new : List ℕ) (read : Result (List ℕ) SourceFault) → with_front front read ≡ Ok new
    → Read front new read
read_of front new (Ok ws) e = record { words = ws; gives = refl; joined = cc }
read_of front new (Err f) e = cc

pub filled_line : (symbols : List (List ℕ × ℕ)) (old mid new : SecondPass) (above : List SourceLine)
    (l : SourceLine) → IsFilled old symbols above
    → with_front old.current.words.items (words_of_statement symbols old.address l.statement)
    ≡ Ok mid.current.words.items
    → mid.current.address ≡ old.current.address → mid.done ≡ old.done → mid.address ≡ old.address
    → ((first : ℕ)
    → unwrap_or mid.entry first ≡ entry_by symbols (unwrap_or old.entry first) l.statement)
    → AdvancesPass mid new (origin_of l.statement) (size_of l.statement)
    → IsFilled new symbols (l ∷ above)
unfolding segments_of address_below entry_of
filled_line symbols old mid new above l f w ca d a e v =
    let r = read_of old.current.words.items mid.current.words.items
    (words_of_statement symbols old.address l.statement) w in
    let wordy : words_of_statement symbols (address_below above) l.statement
    ≡ Ok r.words = sym (ap (λ x. words_of_statement symbols x l.statement) f.address) ∙ r.gives in
    let done : full f.older ≡ segments_seen mid.done.items = rw d f.done in
    let (newer, opens, full_newer) = v.segments f.older done in
    let current : (old.current.address, old.current.words.items ++ r.words)
    ≡ segment_seen mid.current = rw (← ca, r.joined) refl in
    record {
      older = newer;
      segments =
          rw (f.segments, wordy)
          (ap (λ s. Ok (opened_at (origin_of l.statement) (s ∷ f.older))) current
          ∙ ap Ok (sym opens));
      done = full_newer;
      address =
          v.address ∙ ap (λ x. address_from (origin_of l.statement) (x + 4 * size_of l.statement))
          (a ∙ f.address);
      entry =
          λ first. ap (λ x. entry_by symbols x l.statement) (f.entry first) ∙ sym (e first)
          ∙ ap (λ x. unwrap_or x first) (sym v.entry);
    }

pub stopped_line : (symbols : List (List ℕ × ℕ)) (old : SecondPass) (above : List SourceLine)
    (l : SourceLine)
    (x : SourceFault) → IsFilled old symbols above
    → words_of_statement symbols old.address l.statement ≡ Err x
    → segments_of symbols (l ∷ above) ≡ Err (length (l ∷ above), x)
unfolding segments_of
stopped_line symbols old above l x f w =
    let wordy : words_of_statement symbols (address_below above) l.statement
    ≡ Err x = sym (ap (λ y. words_of_statement symbols y l.statement) f.address) ∙ w in
    let n : 1 + length above ≡ length (l ∷ above) = omega arith in
    rw (f.segments, wordy, ← n) refl

pub stop_fill : (r : ReadError) (symbols : List (List ℕ × ℕ)) (old new : SecondPass)
    (front back : List ℕ) (above : List SourceLine) (l : SourceLine) (s : Statement)
    → l.statement ≡ s
    → AddsNumbers (Err r) front back (words_of_statement symbols old.address s)
    → IsFilled old symbols above
    → FillsLine (Err r) new symbols (l ∷ above)
stop_fill errors.Memory symbols old new front back above l s e a f = tt
stop_fill (errors.Fault x) symbols old new front back above l s e a f =
    stopped_line symbols old above l (fault_seen x) f
    (ap (words_of_statement symbols old.address) e ∙ a)

pub fill_on : (symbols : List (List ℕ × ℕ)) (old mid new : SecondPass) (above : List SourceLine)
    (l : SourceLine) (s : Statement) (origin : Option ℕ) (size : ℕ) → l.statement ≡ s
    → IsFilled old symbols above
    → with_front old.current.words.items (words_of_statement symbols old.address s)
    ≡ Ok mid.current.words.items
    → mid.current.address ≡ old.current.address → mid.done ≡ old.done → mid.address ≡ old.address
    → ((first : ℕ) → unwrap_or mid.entry first ≡ entry_by symbols (unwrap_or old.entry first) s)
    → origin ≡ origin_of s → size ≡ size_of s
    → AdvancesPass mid new origin size → IsFilled new symbols (l ∷ above)
fill_on symbols old mid new above l s origin size e f w ca d a en o z v =
    let v2 : AdvancesPass mid new (origin_of l.statement) (size_of l.statement) =
    rw (e, ← o, ← z) v in
    filled_line symbols old mid new above l f
    (ap (λ t. with_front old.current.words.items (words_of_statement symbols old.address t)) e ∙ w)
    ca d a
    (λ first. en first ∙ ap (entry_by symbols (unwrap_or old.entry first)) (sym e)) v2

-- a segment is closed, and another opened
pub full_more : (s : Segment) (older : List Segment)
    → full (s ∷ older) ≡ full older ++ full (s ∷ [])
full_more s older =
    elim (nat_lt 0 (length s.1)) as
    (λ b. reverse
    (cond b (s ∷ filter (λ (t : Segment). nat_lt 0 (length t.1)) older)
    (filter (λ (t : Segment). nat_lt 0 (length t.1))
    older)) ≡ full older ++ reverse (cond b (s ∷ []) [])) [
      | true ↦ reverse-append (s ∷ [])
          (filter (λ (t : Segment). nat_lt 0 (length t.1)) older)
      | false ↦ sym
          (append-nil (full older))
    ]

pub reopened : (old new : SecondPass) (n size : ℕ)
    → segments_seen new.done.items
    ≡ segments_seen old.done.items ++ full (segment_seen old.current ∷ [])
    → segment_seen new.current ≡ (n, []) → new.address ≡ n → new.entry ≡ old.entry
    → AdvancesPass old new (Some n) size
reopened old new n size d c a e =
    record {
      segments =
          λ older f. (
            segment_seen old.current
                ∷ older,
            ap (λ s. s ∷ segment_seen old.current ∷ older) c,
            full_more
                (segment_seen old.current) older
                ∙ ap (λ x. x ++ full (segment_seen old.current ∷ [])) f ∙ sym d,
          );
      address = a;
      entry = e;
    }
