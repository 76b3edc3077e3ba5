use Rattle.std.proofs.Common.{◌≡◌, ◌∙◌, false, true, subst, sym}
use Rattle.std.specs.Prelude.{IsSome}
use Rattle.m161_elf.specs.Outside.{first_outside_ram, has_headers}
use Rattle.m161_elf.proofs.FoundOutside.{found}
use Rattle.m161_elf.proofs.outside.first_outside_ram.Goals as goal

pub returns-then-not-has_headers-clause-value : goal.returns-then-not-has_headers-clause-value
unfolding first_outside_ram
returns-then-not-has_headers-clause-value c =
    let file = c.args.file.now in
    let none : has_headers file ≡ false = sym c.has_headers.ensures ∙ c.if-not-has_headers.true in
    sym (rw none)

pub returns-then-not-has_headers-clause-found : goal.returns-then-not-has_headers-clause-found
returns-then-not-has_headers-clause-found c = λ is. subst IsSome (sym (returns-then-not-has_headers-clause-value c)) (found c.args.file.now c.args.ram is)

pub returns-clause-value : goal.returns-clause-value
unfolding first_outside_ram
returns-clause-value c =
    let file = c.args.file.now in
    let some : has_headers file ≡ true = sym c.has_headers.ensures ∙ c.if-not-has_headers.false in
    c.first_among.ensures ∙ sym (rw some)

pub returns-clause-found : goal.returns-clause-found
returns-clause-found c = λ is. subst IsSome (sym (returns-clause-value c)) (found c.args.file.now c.args.ram is)
