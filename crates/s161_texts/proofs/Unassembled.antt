use Rattle.std.proofs.Common.{◌≡◌, ◌⊎◌, ◌∙◌, ℕ, List, inl, inr, refl, sym, subst}
use Rattle.std.specs.Prelude.{Err}
use Rattle.m161_asm.specs.Text.{text}
use Rattle.m161_asm.specs.declared.error.AsmError.{AsmError}
use Rattle.m161_asm.specs.declared.error.ErrorKind.{ErrorKind}
use Rattle.m161_asm.specs.declared.error.ErrorKind.TheVariants.{BadOperand, BadToken, BranchTooFar, DoubleLabel, NoMemory, OutOfRange, Overlap, UnknownLabel, UnknownWord}
use Rattle.s161_base.specs.declared.fault.Fault.{Fault}
use Rattle.s161_base.specs.Excerpts.{IsWordAt, characters_of}
use Rattle.s161_base.specs.Faults.{IsErrorOf, IsFaultOfSource}
use Rattle.s161_texts.specs.Assemblies.{IsUnassembled}

-- Why a text has no file: an error of the assembler, with what stands at its place.

abbrev Told : List ℕ → AsmError → Type 0
Told source e = ((e.kind ≡ NoMemory) × (e.column ≡ 1)) ⊎ (text source ≡ Err (e.line, (e.kind, e.column)))

has_error : (source : List ℕ) (e : AsmError) (fault : Fault) → IsErrorOf e source fault
    → text source ≡ Err (e.line, (e.kind, e.column)) → IsUnassembled source fault
has_error source e fault h seen =
    subst (IsUnassembled source) (sym h.1)
    (subst (λ x. (text source ≡ Err (x.line, (x.kind, x.column))) × IsWordAt source x.line x.column (characters_of h.0.word))
    (sym h.2) (seen, h.3))

not_memory : (source : List ℕ) (e : AsmError) (kind : ErrorKind) (fault : Fault) → (kind ≡ NoMemory → ⊥) → e.kind ≡ kind
    → IsErrorOf e source fault → Told source e → IsUnassembled source fault
not_memory source e kind fault other is h told = elim told [
  | inl memory ↦ absurd (other (sym is ∙ memory.0))
  | inr seen ↦ has_error source e fault h seen
]

pub unassembled : (source : List ℕ) (e : AsmError) (kind : ErrorKind) (fault : Fault) → e.kind ≡ kind
    → IsFaultOfSource kind e source fault → Told source e → IsUnassembled source fault
unassembled source e NoMemory fault is h told = subst (IsUnassembled source) (sym h) tt
unassembled source e BadToken fault is h told = not_memory source e BadToken fault (λ same. cc) is h told
unassembled source e UnknownWord fault is h told = not_memory source e UnknownWord fault (λ same. cc) is h told
unassembled source e BadOperand fault is h told = not_memory source e BadOperand fault (λ same. cc) is h told
unassembled source e OutOfRange fault is h told = not_memory source e OutOfRange fault (λ same. cc) is h told
unassembled source e UnknownLabel fault is h told = not_memory source e UnknownLabel fault (λ same. cc) is h told
unassembled source e DoubleLabel fault is h told = not_memory source e DoubleLabel fault (λ same. cc) is h told
unassembled source e BranchTooFar fault is h told = not_memory source e BranchTooFar fault (λ same. cc) is h told
unassembled source e Overlap fault is h told = not_memory source e Overlap fault (λ same. cc) is h told
