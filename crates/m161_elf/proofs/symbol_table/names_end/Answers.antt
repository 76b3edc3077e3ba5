use Rattle.std.proofs.Common.{arith}
use Rattle.m161_elf.proofs.Listed.{ends}
use Rattle.m161_elf.proofs.symbol_table.names_end.Goals as goal

pub returns-else-strings-end-ne0-clause-zeros : goal.returns-else-strings-end-ne0-clause-zeros
returns-else-strings-end-ne0-clause-zeros c = λ place.
    ends c.args.strings.now c.loop-end.end place c.loop-end.invariant.within (λ h. omega arith)
    c.loop-end.invariant.none

pub returns-after-loop-end-clause-zeros : goal.returns-after-loop-end-clause-zeros
returns-after-loop-end-clause-zeros c = λ place.
    ends c.args.strings.now c.loop-end.end place c.loop-end.invariant.within
    (λ h. absurd (omega arith)) c.loop-end.invariant.none
