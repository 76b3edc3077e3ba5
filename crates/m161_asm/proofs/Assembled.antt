use Rattle.std.specs.Prelude.{ℕ, ◌%◌, ◌≤◌, ◌<◌, List, [], ◌∷◌, ◌++◌, length, Result, Ok, Err, unwrap_or}
use Rattle.std.proofs.Common.{◌≡◌, inl, inr, refl, ap, sym, ◌∙◌, subst, arith}
use Rattle.m161_asm.specs.declared.error.AsmError.{AsmError}
use Rattle.m161_asm.specs.declared.first.FirstPass.{FirstPass}
use Rattle.m161_asm.specs.declared.second.SecondPass.{SecondPass}
use Rattle.m161_asm.specs.declared.program.Program.{Program as CodeProgram}
use Rattle.m161_text.specs.Lines.{lines_of}
use Rattle.m161_asm.specs.Lines.{◌>>=◌, SourceFault, SourceLine}
use Rattle.m161_asm.specs.Text.{Segment, text, read_lines, symbols_in, segments_of, program_of, full, first_address, entry_of}
use Rattle.m161_asm.specs.declared.statement.Line.{Line as CodeLine}
use Rattle.m161_asm.specs.helpers.Seen.{above_of}
use Rattle.m161_asm.specs.Answer.{program_seen, Tells}
use Rattle.m161_asm.specs.Segments.{segment_seen, segments_seen}
use Rattle.m161_asm.specs.helpers.SecondPass.{IsFilled, Passes}
use Rattle.m161_asm.specs.helpers.Lawful.{Lawful}
use Rattle.m161_asm.specs.helpers.Segments.{AreSegments}
use Rattle.m161_asm.proofs.Filled.{full_more}
use Rattle.m161_asm.proofs.Above.{above_len}
use Rattle.m161_asm.proofs.Lawfuls.{read_count}
use Rattle.m161_asm.proofs.Aligned.{entry_is_multiple, first_is_multiple}
use Rattle.m161_asm.proofs.Made.{are_segments}

-- From the passes to the program.

whole : (second : SecondPass) (symbols : List (List ℕ × ℕ)) (all : List SourceLine)
    (f : IsFilled second symbols all)
    → full (segment_seen second.current ∷ f.older)
    ≡ segments_seen second.done.items ++ full (segment_seen second.current ∷ [])
whole second symbols all f =
    full_more (segment_seen second.current) f.older
    ∙ ap (λ x. x ++ full (segment_seen second.current ∷ [])) f.done

pub finished : (second : SecondPass) (all : List SourceLine) (segments : List Segment)
    (symbols : List (List ℕ × ℕ)) (entry : ℕ) → symbols ≡ symbols_in all
    → IsFilled second (symbols_in all) all
    → segments ≡ segments_seen second.done.items ++ full (segment_seen second.current ∷ [])
    → entry ≡ unwrap_or second.entry (first_address segments)
    → program_of all ≡ Ok (record { segments = segments; symbols = symbols; entry = entry })
unfolding program_of
finished second all segments symbols entry s f g e =
    let full_is : full (segment_seen second.current ∷ f.older)
    ≡ segments = whole second (symbols_in all) all f ∙ sym g in
    let enter : entry_of (symbols_in all) (first_address segments) all
    ≡ entry = f.entry (first_address segments) ∙ sym e in
    rw (f.segments, full_is, enter, ← s) refl

-- the segments keep the limits
pub within_limits : (second : SecondPass) (symbols : List (List ℕ × ℕ)) (all : List SourceLine)
    → IsFilled second symbols all → Lawful all
    → AreSegments (segments_seen second.done.items ++ full (segment_seen second.current ∷ []))
within_limits second symbols all f h =
    subst AreSegments (whole second symbols all f)
    (are_segments symbols all (segment_seen second.current) f.older f.segments h)

-- the entry is a multiple of 4
pub entry_aligned : (second : SecondPass) (symbols : List (List ℕ × ℕ)) (all : List SourceLine)
    → IsFilled second symbols all → Lawful all
    → unwrap_or second.entry
    (first_address (segments_seen second.done.items ++ full (segment_seen second.current ∷ []))) % 4
    ≡ 0
entry_aligned second symbols all f h =
    let ss = segments_seen second.done.items ++ full (segment_seen second.current ∷ []) in
    let first = first_is_multiple ss (within_limits second symbols all f h).placed in
    subst (λ (n : ℕ). n % 4 ≡ 0) (f.entry (first_address ss))
    (entry_is_multiple symbols (first_address ss) all first)

-- the first pass reads each line of the text
pub line_count : (ls : List CodeLine) (b t : List ℕ) → b ≡ t
    → read_lines [] (lines_of b) ≡ Ok (above_of ls) → length ls ≡ length (lines_of t)
line_count ls b t q r =
    let read = read_count [] (lines_of b) (above_of ls) r in
    let all : length ls ≡ length (lines_of b) = omega (arith, read, above_len ls) in
    all ∙ ap (λ x. length (lines_of x)) q

-- words come from a line
abbrev first_len : Result (List Segment) (ℕ × SourceFault) → ℕ
first_len (Ok (s ∷ ss)) = length s.1
first_len _ = 0

pub has_line : (second : SecondPass) (symbols : List (List ℕ × ℕ)) (all : List SourceLine)
    → IsFilled second symbols all → 0 < length second.current.words.items → 1 ≤ length all
unfolding segments_of
has_line second symbols [] f h =
    let none : 0 ≡ length second.current.words.items = ap first_len f.segments in
    absurd (omega (arith, none, h))
has_line second symbols (l ∷ above) f h = omega arith

-- a fault of the first pass
pub first_told : (e : AsmError) (view : FirstPass → List SourceLine) (b t : List ℕ) → b ≡ t
    → Tells view (Err e) (read_lines [] (lines_of b)) → Tells program_seen (Err e) (text t)
unfolding text
first_told e view b t q (inl m) = inl m
first_told e view b t q (inr f) =
    inr (ap (λ x. read_lines [] (lines_of x) >>= program_of) (sym q) ∙ ap (λ r. r >>= program_of) f)

-- a fault of the second
pub second_told : (e : AsmError) (b t : List ℕ) (symbols : List (List ℕ × ℕ))
    (all : List SourceLine)
    → b ≡ t → read_lines [] (lines_of b) ≡ Ok all → symbols ≡ symbols_in all
    → Passes (Err e) symbols all → Tells program_seen (Err e) (text t)
unfolding text program_of
second_told e b t symbols all q r s (inl m) = inl m
second_told e b t symbols all q r s (inr f) =
    let g : segments_of (symbols_in all) all ≡ Err (e.line, (e.kind, e.column)) = rw s at f in
    inr (rw (← q, r, g) refl)

pub told_program : (p : CodeProgram) (b t : List ℕ) (all : List SourceLine) → b ≡ t
    → read_lines [] (lines_of b) ≡ Ok all → program_of all ≡ Ok (program_seen p)
    → text t ≡ Ok (program_seen p)
unfolding text
told_program p b t all q r g = rw (← q, r) g
