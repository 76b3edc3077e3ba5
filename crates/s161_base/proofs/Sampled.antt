use Rattle.std.proofs.Common.{◌≡◌, ◌∙◌, ℕ, List, length, Result, Ok, Err, refl, ap, subst, sym, inl, inr, arith}
use Rattle.std.specs.Prelude.{filter}
use Rattle.std.specs.List.{AllByRecursion}
use Rattle.m161_asm.specs.declared.error.AsmError.{AsmError}
use Rattle.m161_asm.specs.declared.program.Program.{Program as CodeProgram}
use Rattle.m161_asm.specs.Answer.{Tells, program_seen}
use Rattle.m161_asm.specs.Lines.{SourceFault}
use Rattle.m161_asm.specs.Seen.{symbols_seen}
use Rattle.m161_asm.specs.Segments.{segments_seen}
use Rattle.m161_asm.specs.Text.{Program, Segment}
use Rattle.m161_elf_writer.specs.Labels.{file_with_symbols}
use Rattle.m161_elf_writer.specs.LabelsLaw.{is_label_shown, labelled, IsLabel}
use Rattle.m161_elf_writer.specs.Written.{elf_bytes}
use Rattle.m161_elf_writer.proofs.LabelsListed.{labels_listed}
use Rattle.m161_symbols.specs.Names.{names_in}
use Rattle.s161_base.specs.Samples.{sample_entry, sample_file, sample_labels, sample_segments}
use Rattle.s161_base.specs.helpers.Samples.{IsSample}

-- The sample, assembled.

abbrev pub sample : Program
sample = record { segments = sample_segments; symbols = sample_labels; entry = sample_entry }

-- a program, or else another
abbrev program_or : Program → Result Program (ℕ × SourceFault) → Program
program_or other (Ok p) = p
program_or other (Err e) = other

no_error : (p : Program) (e : ℕ × SourceFault) → Ok p ≡ Err e → ⊥
no_error p e h = (cc)

pub told : (r : Result CodeProgram AsmError) (p : Program) → Tells program_seen r (Ok p) → p.entry ≡ sample_entry → p.segments ≡ sample_segments → p.symbols ≡ sample_labels → IsSample r
told (Ok q) p h entry segments labels = (
  sym (ap (λ x. (program_or p x).entry) h) ∙ entry,
  sym (ap (λ x. (program_or p x).segments) h) ∙ segments,
  sym (ap (λ x. (program_or p x).symbols) h) ∙ labels,
)
told (Err e) p (inl h) entry segments labels = h.0
told (Err e) p (inr h) entry segments labels = absurd (no_error p (e.line, (e.kind, e.column)) h)

pub file_is : (entry : ℕ) (segments : List Segment) → entry ≡ sample_entry → segments ≡ sample_segments → elf_bytes entry segments ≡ sample_file
unfolding sample_file
file_is entry segments same_entry same_segments = ap (λ n. elf_bytes n segments) same_entry ∙ ap (elf_bytes sample_entry) same_segments

-- Its labels, read from its file with symbols.

labels_sound : AllByRecursion IsLabel sample_labels
labels_sound =
    ((refl, omega arith), ((refl, omega arith), ((refl, omega arith), ((refl, omega arith), ((refl, omega arith), ((refl, omega arith), ((refl, omega arith), tt)))))))

labelled_size : length (file_with_symbols sample_entry sample_segments sample_labels) ≡ 848
labelled_size = refl

labels_shown : filter is_label_shown sample_labels ≡ sample_labels
labels_shown = refl

pub labels_are : (p : CodeProgram) → IsSample (Ok p) → names_in (labelled p) ≡ sample_labels
labels_are p is =
    let ss = segments_seen p.segments.items in
    let ls = symbols_seen p.symbols in
    let same : labelled p ≡ file_with_symbols sample_entry sample_segments sample_labels =
    ap (λ n. file_with_symbols n ss ls) is.0
    ∙ ap (λ n. file_with_symbols sample_entry n ls) is.1
    ∙ ap (file_with_symbols sample_entry sample_segments) is.2 in
    let count : length ls ≡ 7 = ap length is.2 in
    let P : List (List ℕ × ℕ) → Type 0 = λ n. AllByRecursion IsLabel n in
    labels_listed p (subst P (sym is.2) labels_sound) (omega (arith, count)) (omega (arith, ap length same ∙ labelled_size))
    ∙ ap (filter is_label_shown) is.2
    ∙ labels_shown
