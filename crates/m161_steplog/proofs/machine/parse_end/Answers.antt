use Rattle.std.proofs.Common.{arith, ℕ, decimal}
use Rattle.m161_text.specs.Parts.{Lacks, IsWord}
use Rattle.m161_steplog.specs.Machine.{digest_text, IsDigest}
use Rattle.m161_text.proofs.Decimal.{decimal_lacks_space}
use Rattle.m161_text.proofs.Parts.{no_cut, no_first, no_second, both}
use Rattle.m161_steplog.proofs.machine.parse_end.Goals as goal

one_part : (n : ℕ) → IsWord n → Lacks 32 (decimal n)
one_part n small = decimal_lacks_space n (omega arith)

pub returns-in_err-processors : goal.returns-in_err-processors
returns-in_err-processors c = rw c.from_residual.ensures (no_cut IsWord IsDigest decimal digest_text c.args.text.now c.in_err-processors.ensures)

pub returns-in_err-processors-2 : goal.returns-in_err-processors-2
returns-in_err-processors-2 c = rw c.from_residual-in_err-processors-2.ensures (no_first IsWord IsDigest decimal digest_text _ _ c.args.text.now one_part c.in_ok-processors.ensures c.in_err-processors-2.ensures)

pub returns-in_err-digest : goal.returns-in_err-digest
returns-in_err-digest c = rw c.from_residual-in_err-digest.ensures (no_second IsWord IsDigest decimal digest_text _ _ c.args.text.now one_part c.in_ok-processors.ensures c.in_err-digest.ensures)

pub returns : goal.returns
returns c = both IsWord IsDigest decimal digest_text _ _ c.args.text.now _ _ one_part c.in_ok-processors.ensures c.in_ok-processors-2.ensures c.in_ok-digest.ensures
