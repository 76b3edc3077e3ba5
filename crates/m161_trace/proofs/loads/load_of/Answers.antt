use Rattle.std.proofs.Common.{◌∙◌, ap}
use Rattle.m161_cpu.specs.declared.processor.Outcome.{Outcome}
use Rattle.m161_machine.specs.State.{State}
use Rattle.m161_trace.proofs.Near.{accepted}
use Rattle.m161_trace.proofs.loads.load_of.Goals as goal

pub load_of_run-requires-clause-ran : goal.load_of_run-requires-clause-ran
load_of_run-requires-clause-ran g c =
    let a = accepted c.args.p c.args.before.now.state c.args.outcome c.args.after.now.state c.requires.accepted in
    ap (λ (r : Outcome × State). r.0) a.given ∙ c.in-Ran.is
