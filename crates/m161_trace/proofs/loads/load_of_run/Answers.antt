use Rattle.std.proofs.Common.{◌∙◌, ap, sym}
use Rattle.m161_cpu.specs.declared.uses.Uses.{Uses}
use Rattle.m161_trace.proofs.Loading.{reaches}
use Rattle.m161_trace.proofs.loads.load_of_run.Goals as goal

pub loads_by-at-requires-clause-reaches : goal.loads_by-at-requires-clause-reaches
loads_by-at-requires-clause-reaches g c =
    reaches c.args.p c.args.before.now.state c.in-Some.word c.uses.result.access c.uses_tell_the_step.ensures.step c.requires.ran (sym c.requires.fetch ∙ c.in-Some.is) (ap (λ (u : Uses). u.access) c.uses.ensures.value)
