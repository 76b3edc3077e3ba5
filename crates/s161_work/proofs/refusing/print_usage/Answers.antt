use Rattle.std.proofs.Common.{subst}
use Rattle.s161_work.specs.Failures.{IsReported}
use Rattle.s161_work.proofs.refusing.print_usage.Goals as goal

-- the fault is that of an output
pub returns-in-Err-clause-unsaid : goal.returns-in-Err-clause-unsaid
returns-in-Err-clause-unsaid g c = λ one.
    let between = g.E.Write.contents c.send.new.output in
    let after = g.E.Write.contents c.report.new.errors in
    (between, c.in-Err.ensures.err.1, subst (λ fault. IsReported fault between after) c.in-Err.ensures.err.0 c.report.ensures.line)
