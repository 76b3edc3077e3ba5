use Rattle.std.specs.Prelude.{ℕ, zero, suc, not, Result, Ok, Err, ◌+◌, ◌≤◌, ◌<◌, true, false, cond, ◌==◌, List, [], ◌∷◌, ◌++◌, length, map, take, drop}
use Rattle.std.specs.List.{position_or_len, onto_first}
use Rattle.std.proofs.Common.{◌≡◌, inl, inr, refl, ap, sym, ◌∙◌, arith}
use Rattle.std.proofs.lemmas.List.{map-append, reverse-append, length-map, length-reverse}
use Rattle.m161_asm.specs.declared.statement.Line.{Line as CodeLine}
use Rattle.m161_asm.specs.declared.error.AsmError.{AsmError}
use Rattle.m161_asm.specs.declared.statement.ReadError.{ReadError}
use Rattle.m161_asm.specs.declared.statement.ReadError.TheVariants as errors
use Rattle.m161_asm.specs.Tokens.{Placed, tokens}
use Rattle.m161_text.specs.Lines.{lines_of}
use Rattle.m161_asm.specs.Lines.{◌>>=◌, SourceFault, Statement, SourceLine, sound, label_of, past_of, line_column, statement}
use Rattle.m161_asm.specs.Text.{line_of, read_lines, line_in_place, new_label}
use Rattle.m161_asm.specs.helpers.FirstPass.{label_checked, line_with}
use Rattle.m161_asm.specs.helpers.Seen.{line_seen, above_of, fault_seen, TellsFault, Yields, GoesOn}
use Rattle.m161_asm.specs.Answer.{Tells}
use Rattle.m161_asm.specs.declared.first.FirstPass.{FirstPass}

-- The lines above, and the lines below.

pub took : (old new : List CodeLine) (l : CodeLine) → new ≡ old ++ (l ∷ [])
    → above_of new ≡ line_seen l ∷ above_of old
took old new l e =
    rw (e, map-append line_seen old (l ∷ []), reverse-append (map line_seen old) (line_seen l ∷ []))
    refl

pub above_len : (ls : List CodeLine) → length (above_of ls) ≡ length ls
above_len ls = simp (length-reverse, length-map)

pub drop_all : (bs : List ℕ) (n : ℕ) → length bs ≤ n → drop n bs ≡ []
drop_all [] zero h = refl
drop_all [] (suc n) h = refl
drop_all (b ∷ bs) zero h = absurd (omega (arith, h))
drop_all (b ∷ bs) (suc n) h = drop_all bs n (omega (arith, h))

-- the first line, and those behind it
abbrev len : List ℕ → ℕ
len rest = position_or_len (λ b. b == 10) rest

abbrev Parted : List ℕ → Type 0
Parted rest = lines_of rest ≡ take (len rest) rest ∷ lines_of (drop (len rest + 1) rest)

later : (b : ℕ) (bs : List ℕ) → (0 < length bs → Parted bs)
    → onto_first b (lines_of bs) ≡ (b ∷ take (len bs) bs) ∷ lines_of (drop (len bs + 1) bs)
later b [] ih = refl
later b (c ∷ cs) ih = ap (onto_first b) (ih (omega arith))

pub first_line : (rest : List ℕ) → 0 < length rest → Parted rest
first_line [] h = absurd (omega (arith, h))
first_line (b ∷ bs) h =
    let n : 1 + len bs ≡ suc (len bs) = omega arith in
    let m : 1 + len bs + 1 ≡ suc (len bs + 1) = omega arith in
    let t = b == 10 in
    elim (b == 10) as
    (λ t. cond t ([] ∷ lines_of bs) (onto_first b (lines_of bs))
    ≡ take (cond (not t) (1 + len bs) 0) (b ∷ bs)
    ∷ lines_of (drop (cond (not t) (1 + len bs) 0 + 1) (b ∷ bs)))
    [ true ↦ refl | false ↦ rw (m, n) (later b bs (λ k. first_line bs k)) ]

-- one line further
pub gone : (above new : List SourceLine) (bytes : List ℕ) (below : List (List ℕ)) (l : SourceLine)
    → line_of above (tokens bytes) ≡ Ok l → new ≡ l ∷ above
    → read_lines above (bytes ∷ below) ≡ read_lines new below
unfolding read_lines
gone above new bytes below l e d = rw (e, d) refl

stopped : (above : List SourceLine) (bytes : List ℕ) (below : List (List ℕ)) (f : SourceFault)
    → line_of above (tokens bytes) ≡ Err f
    → read_lines above (bytes ∷ below) ≡ Err (1 + length above, f)
unfolding read_lines
stopped above bytes below f e = rw e refl

pub told : (e : AsmError) (r : ReadError) (above : List SourceLine) (n : ℕ) (bytes : List ℕ)
    (below : List (List ℕ)) (x : Result (List SourceLine) (ℕ × SourceFault)) → TellsFault e n r
    → n ≡ length above + 1 → Yields {X = CodeLine} line_seen (Err r) (line_of above (tokens bytes))
    → GoesOn (Err e) (read_lines above (bytes ∷ below)) x
told e errors.Memory above n bytes below x t d y = inl t
told e (errors.Fault f) above n bytes below x t d y =
    let line : 1 + length above ≡ e.line = omega (arith, t.0, d) in
    inr (stopped above bytes below (fault_seen f) y ∙ rw (line, t.1, t.2) refl)

-- a step of the loop over the lines
parted_at : (rest : List ℕ) (n : ℕ) → 0 < length rest → n ≡ len rest
    → lines_of rest ≡ take n rest ∷ lines_of (drop (n + 1) rest)
parted_at rest n h e = rw e (first_line rest h)

pub shorter : (rest : List ℕ) (n : ℕ) → 0 < length rest → n ≡ len rest
    → length (lines_of rest) ≡ length (lines_of (drop (n + 1) rest)) + 1
shorter rest n h e = ap length (parted_at rest n h e) ∙ omega arith

pub step_on : (above new : List SourceLine) (rest : List ℕ) (n : ℕ)
    (whole : Result (List SourceLine) (ℕ × SourceFault)) → 0 < length rest → n ≡ len rest
    → read_lines above (take n rest ∷ lines_of (drop (n + 1) rest))
    ≡ read_lines new (lines_of (drop (n + 1) rest)) → read_lines above (lines_of rest) ≡ whole
    → read_lines new (lines_of (drop (n + 1) rest)) ≡ whole
step_on above new rest n whole h e s k =
    sym s ∙ ap (read_lines above) (sym (parted_at rest n h e)) ∙ k

pub step_off : (view : FirstPass → List SourceLine) (e : AsmError) (above : List SourceLine)
    (rest : List ℕ)
    (n : ℕ) (after whole : Result (List SourceLine) (ℕ × SourceFault)) → 0 < length rest → n ≡ len rest
    → GoesOn (Err e) (read_lines above (take n rest ∷ lines_of (drop (n + 1) rest))) after
    → read_lines above (lines_of rest) ≡ whole → Tells view (Err e) whole
step_off view e above rest n after whole h d (inl m) k = inl m
step_off view e above rest n after whole h d (inr f) k =
    inr (sym k ∙ ap (read_lines above) (parted_at rest n h d) ∙ f)

pub at_end : (above : List SourceLine) (rest : List ℕ)
    (whole : Result (List SourceLine) (ℕ × SourceFault))
    → length rest ≤ 0 → read_lines above (lines_of rest) ≡ whole → whole ≡ Ok above
unfolding read_lines
at_end above [] whole h k = sym k
at_end above (b ∷ bs) whole h k = absurd (omega (arith, h))

pub dropped_within : (bs : List ℕ) (n : ℕ) → length (drop n bs) ≤ length bs
dropped_within [] zero = omega arith
dropped_within [] (suc n) = omega arith
dropped_within (b ∷ bs) zero = omega arith
dropped_within (b ∷ bs) (suc n) = let d = dropped_within bs n in omega (arith, d)

line_by : (a b : Result (Unit {0}) SourceFault) (c : Result Statement SourceFault) (f : Statement → SourceLine)
    (g : SourceLine → Result SourceLine SourceFault)
    → (a >>= λ _. b >>= λ _. c >>= λ s. g (f s)) ≡ ((a >>= λ _. b) >>= λ _. (c >>= λ s. Ok (f s)) >>= g)
line_by (Ok u) (Ok v) (Ok s) f g = refl
line_by (Ok u) (Ok v) (Err e) f g = refl
line_by (Ok u) (Err e) c f g = refl
line_by (Err e) b c f g = refl

-- a line is checked, read and placed
pub line_is : (above : List SourceLine) (ts : List Placed)
    → line_of above ts
    ≡ (label_checked above ts >>= λ _. line_with ts >>= line_in_place above)
unfolding line_of
line_is above ts =
    line_by (sound ts) (new_label above (label_of ts).0) (statement (past_of ts) (label_of ts).1)
    (λ s. record {
      label = (label_of ts).0;
      statement = s;
      column = line_column ts (label_of ts).1;
    })
    (line_in_place above)
