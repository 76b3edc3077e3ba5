use Rattle.std.proofs.Common.{◌∙◌}
use Rattle.m161_trace.proofs.Touching.{outcome_is}
use Rattle.m161_trace.proofs.touched.loaded_by.Goals as goal

pub loaded-requires-clause-ran : goal.loaded-requires-clause-ran
loaded-requires-clause-ran g c = outcome_is c.args.p c.args.core.now.state c.args.outcome c.requires.accepted ∙ c.in-Ran.is
