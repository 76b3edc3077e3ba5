use Rattle.std.proofs.Common.{◌∙◌, sym}
use Rattle.m161_trace.proofs.Loading.{reaches}
use Rattle.m161_trace.proofs.loads.loaded_address.Goals as goal

pub loads_by-requires-clause-reaches : goal.loads_by-requires-clause-reaches
loads_by-requires-clause-reaches g c =
    reaches c.args.p c.args.core.now.state c.in-Some.word c.args.via c.uses_tell_the_step.ensures.step c.requires.ran (sym c.requires.fetch ∙ c.in-Some.is) c.requires.via
