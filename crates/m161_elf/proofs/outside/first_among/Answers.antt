use borrow.Author.Count.{below_more}
use Rattle.std.proofs.Common.{◌≡◌, ◌∙◌, ℕ, ◌<◌, false, Option, Some, ap, sym, arith}
use Rattle.std.specs.Prelude.{option_map}
use Rattle.m161_elf.specs.declared.header.ProgramHeader.{ProgramHeader}
use Rattle.m161_elf.specs.Header.{e_phnum, header}
use Rattle.m161_elf.specs.declared.outside.OutsideRam.{OutsideRam}
use Rattle.m161_elf.specs.Outside.{is_at_fault, outside_at}
use Rattle.m161_elf.proofs.FoundOutside.{no_place, place_is}
use Rattle.m161_elf.proofs.outside.first_among.Goals as goal

abbrev told : ℕ → ℕ → ProgramHeader → Option OutsideRam
told ram i h = Some (record { header = i; size = h.p_memsz; address = h.p_vaddr; ram = ram })

pub returns-then-is_at_fault : goal.returns-then-is_at_fault
returns-then-is_at_fault c =
    let file = c.args.file.now in
    let ram = c.args.ram in
    let i = c.loop-i.i in
    let below : i < e_phnum file = omega arith in
    let here = ap (is_at_fault ram) (sym c.header-header.ensures) ∙ sym c.is_at_fault.ensures ∙ c.if-is_at_fault.true in
    let place = place_is (header file) (is_at_fault ram) (e_phnum file) (header file 0) i below c.loop-i.invariant here in
    ap (told ram i) c.header-header.ensures ∙ sym (ap (option_map (outside_at file ram)) place)

pub loop-i-preserved : goal.loop-i-preserved
loop-i-preserved c =
    let file = c.args.file.now in
    let ram = c.args.ram in
    let here = ap (is_at_fault ram) (sym c.header-header.ensures) ∙ sym c.is_at_fault.ensures ∙ c.if-is_at_fault.false in
    below_more (λ k. is_at_fault ram (header file k) ≡ false) c.loop-i.i c.loop-i.invariant here

pub returns : goal.returns
returns c =
    let file = c.args.file.now in
    let ram = c.args.ram in
    let none = no_place (header file) (is_at_fault ram) (e_phnum file) (header file 0) (λ k below. c.loop-i.invariant k (omega (arith, below))) in
    sym (ap (option_map (outside_at file ram)) none)
