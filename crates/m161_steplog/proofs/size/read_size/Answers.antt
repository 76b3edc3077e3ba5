use Rattle.std.proofs.Common.{sym, subst}
use Rattle.m161_text.specs.Parts.{Reads}
use Rattle.m161_steplog.specs.Size.{size_text, IsMachineSize}
use Rattle.m161_steplog.proofs.Machines.{first_is}
use Rattle.m161_steplog.proofs.size.read_size.Goals as goal

pub returns : goal.returns
returns c = subst (λ t. Reads IsMachineSize size_text t c.parse_size.result) (sym (first_is c.args.text.now c.in_ok-line.line.now c.in_ok-line.field-0-1.now c.in_ok-line.ensures.cut)) c.parse_size.ensures
