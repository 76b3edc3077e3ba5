use Rattle.std.proofs.Common.{◌≡◌, ◌∙◌, refl, ap, sym, ℕ, Bool, true, false, Option, None, Some, Ok, Err}
use Rattle.std.specs.Prelude.{if◌then◌else◌}
use Rattle.m161_isa.specs.declared.table.Row.{Row}
use Rattle.m161_isa.specs.declared.table.Row.TheVariants as rows
use Rattle.m161_isa.specs.declared.instr.Coprocessor.{Coprocessor}
use Rattle.m161_isa.specs.Table.{absent_in, row_that_fits}
use Rattle.m161_isa.specs.Instr.{instr_by, instr_of, misfit}
use Rattle.m161_cpu.specs.Processor.{Processor}
use Rattle.m161_cpu.specs.Fetch.{fetched_word, word_found}
use Rattle.m161_cpu.specs.Scene.{Scene, and_then, around, scene}
use Rattle.m161_cpu.specs.Step.{is_unusable, usable, word_at_pc}
use Rattle.m161_cpu.specs.Uses.{fetches}
use Rattle.m161_alike.specs.declared.reads.Reads.{Reads}
use Rattle.m161_alike.specs.Reads.{no_reads, reads_after, reads_by_row, reads_in, reads_of_step, reads_of_word}
use Rattle.m161_machine.specs.State.{State, processor_at}
use Rattle.m161_cop0.specs.declared.register.Register.TheVariants as register
use Rattle.m161_cop0.specs.Registers.{number_of_register}
use Rattle.m161_cop0.specs.Control.{Control, read_of}
use Rattle.m161_alike.specs.helpers.Reads.{reads_of_instr}
use Rattle.m161_alike.proofs.TimelessStep.{reads_if}

-- What the instruction of a word reads.

of_misfit : (word : ℕ) (o : Option Coprocessor) → reads_of_instr (misfit word o) ≡ no_reads
of_misfit word None = refl
of_misfit word (Some unit) = refl

of_row : (p : Processor) (word : ℕ) (o : Option Row) → reads_of_instr (instr_by word o) ≡ reads_by_row p word o
of_row p word None = of_misfit word (absent_in word)
of_row p word (Some rows.Sll) = refl
of_row p word (Some rows.Srl) = refl
of_row p word (Some rows.Sra) = refl
of_row p word (Some rows.Sllv) = refl
of_row p word (Some rows.Srlv) = refl
of_row p word (Some rows.Srav) = refl
of_row p word (Some rows.Jr) = refl
of_row p word (Some rows.Jalr) = refl
of_row p word (Some rows.Syscall) = refl
of_row p word (Some rows.Break) = refl
of_row p word (Some rows.Sync) = refl
of_row p word (Some rows.Mfhi) = refl
of_row p word (Some rows.Mthi) = refl
of_row p word (Some rows.Mflo) = refl
of_row p word (Some rows.Mtlo) = refl
of_row p word (Some rows.Mult) = refl
of_row p word (Some rows.Multu) = refl
of_row p word (Some rows.Div) = refl
of_row p word (Some rows.Divu) = refl
of_row p word (Some rows.Add) = refl
of_row p word (Some rows.Addu) = refl
of_row p word (Some rows.Sub) = refl
of_row p word (Some rows.Subu) = refl
of_row p word (Some rows.And) = refl
of_row p word (Some rows.Or) = refl
of_row p word (Some rows.Xor) = refl
of_row p word (Some rows.Nor) = refl
of_row p word (Some rows.Slt) = refl
of_row p word (Some rows.Sltu) = refl
of_row p word (Some rows.Bltz) = refl
of_row p word (Some rows.Bgez) = refl
of_row p word (Some rows.Bltzal) = refl
of_row p word (Some rows.Bgezal) = refl
of_row p word (Some rows.J) = refl
of_row p word (Some rows.Jal) = refl
of_row p word (Some rows.Beq) = refl
of_row p word (Some rows.Bne) = refl
of_row p word (Some rows.Blez) = refl
of_row p word (Some rows.Bgtz) = refl
of_row p word (Some rows.Addi) = refl
of_row p word (Some rows.Addiu) = refl
of_row p word (Some rows.Slti) = refl
of_row p word (Some rows.Sltiu) = refl
of_row p word (Some rows.Andi) = refl
of_row p word (Some rows.Ori) = refl
of_row p word (Some rows.Xori) = refl
of_row p word (Some rows.Lui) = refl
of_row p word (Some rows.Lb) = refl
of_row p word (Some rows.Lh) = refl
of_row p word (Some rows.Lwl) = refl
of_row p word (Some rows.Lw) = refl
of_row p word (Some rows.Lbu) = refl
of_row p word (Some rows.Lhu) = refl
of_row p word (Some rows.Lwr) = refl
of_row p word (Some rows.Sb) = refl
of_row p word (Some rows.Sh) = refl
of_row p word (Some rows.Swl) = refl
of_row p word (Some rows.Sw) = refl
of_row p word (Some rows.Swr) = refl
of_row p word (Some rows.Ll) = refl
of_row p word (Some rows.Sc) = refl
of_row p word (Some rows.Mfc0) = refl
of_row p word (Some rows.Mtc0) = refl
of_row p word (Some rows.Tlbr) = refl
of_row p word (Some rows.Tlbwi) = refl
of_row p word (Some rows.Tlbwr) = refl
of_row p word (Some rows.Tlbp) = refl
of_row p word (Some rows.Rfe) = refl
of_row p word (Some rows.Wait) = refl

pub of_word : (p : Processor) (word : ℕ) → reads_of_instr (instr_of word) ≡ reads_of_word p word
of_word p word = of_row p word (row_that_fits word)

-- a Step that fetches a word, and one that doesn't

used : (p : Processor) (word : ℕ) (bad : Bool) → is_unusable p.control word ≡ bad →
    reads_after p (usable p.control word) ≡ (if bad then no_reads else reads_of_word p word)
used p word true h = rw h refl
used p word false h = rw h refl

found : (p : Processor) (w : _) (word : ℕ) → word_found w ≡ Some word →
    reads_after p (and_then w (usable p.control)) ≡ reads_after p (usable p.control word)
found p (Ok other) word h = let same : other ≡ word = cc in ap (λ x. reads_after p (usable p.control x)) same
found p (Err f) word h = absurd (let bad : ◌≡◌ {A = Option ℕ} None (Some word) = h in cc)

lost : (p : Processor) (w : _) → word_found w ≡ None → reads_after p (and_then w (usable p.control)) ≡ no_reads
lost p (Ok other) h = absurd (let bad : ◌≡◌ {A = Option ℕ} (Some other) None = h in cc)
lost p (Err f) h = refl

pub word_read : (s : Scene) (word : ℕ) (bad : Bool) → fetches s ≡ true →
    fetched_word s.around.memory s.processor.pc s.processor ≡ Some word → is_unusable s.processor.control word ≡ bad →
    (if bad then no_reads else reads_of_instr (instr_of word)) ≡ reads_of_step s
unfolding fetched_word
word_read s word bad fetching is unusable =
    ap (λ r. if bad then no_reads else r) (of_word s.processor word)
    ∙ sym (reads_if s true fetching ∙ found s.processor (word_at_pc s.around.memory s.processor) word is ∙ used s.processor word bad unusable)

pub no_word : (s : Scene) → fetches s ≡ true → fetched_word s.around.memory s.processor.pc s.processor ≡ None → no_reads ≡ reads_of_step s
unfolding fetched_word
no_word s fetching is = sym (reads_if s true fetching ∙ lost s.processor (word_at_pc s.around.memory s.processor) is)

pub no_fetch : (s : Scene) → fetches s ≡ false → no_reads ≡ reads_of_step s
no_fetch s h = sym (reads_if s false h)

-- the same of a state

pub word_read_in : (p : ℕ) (s : State) (word : ℕ) (result : Reads) →
    fetches (scene (processor_at p s.processors) (around p s.memory s.board s.links s.conf.strict)) ≡ true →
    fetched_word s.memory (processor_at p s.processors).pc (processor_at p s.processors) ≡ Some word →
    result ≡ (if is_unusable (processor_at p s.processors).control word then no_reads else reads_of_instr (instr_of word)) →
    result ≡ reads_in p s
unfolding reads_in
word_read_in p s word result fetching is value =
    value ∙ word_read (scene (processor_at p s.processors) (around p s.memory s.board s.links s.conf.strict)) word
    (is_unusable (processor_at p s.processors).control word) fetching is refl

pub no_word_in : (p : ℕ) (s : State) →
    fetches (scene (processor_at p s.processors) (around p s.memory s.board s.links s.conf.strict)) ≡ true →
    fetched_word s.memory (processor_at p s.processors).pc (processor_at p s.processors) ≡ None → no_reads ≡ reads_in p s
unfolding reads_in
no_word_in p s fetching is = no_word (scene (processor_at p s.processors) (around p s.memory s.board s.links s.conf.strict)) fetching is

pub no_fetch_in : (p : ℕ) (s : State) →
    fetches (scene (processor_at p s.processors) (around p s.memory s.board s.links s.conf.strict)) ≡ false → no_reads ≡ reads_in p s
unfolding reads_in
no_fetch_in p s h = no_fetch (scene (processor_at p s.processors) (around p s.memory s.board s.links s.conf.strict)) h

pub status_read : (lines : ℕ) (c : Control) → read_of (number_of_register register.Status) lines c ≡ c.status
unfolding read_of
status_read lines c = refl
