use Rattle.std.proofs.Common.{sym, subst}
use Rattle.m161_text.specs.Parts.{Reads}
use Rattle.m161_steplog.specs.Machine.{machine_text, IsMachineLine}
use Rattle.m161_steplog.proofs.Machines.{first_is}
use Rattle.m161_steplog.proofs.machine.read_machine.Goals as goal

pub returns : goal.returns
returns c = subst (λ t. Reads IsMachineLine machine_text t c.parse_machine.result) (sym (first_is c.args.text.now c.in_ok-line.line.now c.in_ok-line.field-0-1.now c.in_ok-line.ensures.cut)) c.parse_machine.ensures
