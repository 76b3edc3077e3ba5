use Rattle.m161_trace.proofs.Touching.{has_place}
use Rattle.m161_trace.proofs.touched.step_touched.Goals as goal

pub pc-requires : goal.pc-requires
pc-requires g c = has_place c.args.p c.args.core.now.state c.args.outcome c.requires

pub fetched_word-fetch-requires : goal.fetched_word-fetch-requires
fetched_word-fetch-requires g c = has_place c.args.p c.args.core.now.state c.args.outcome c.requires

pub uses-uses-requires : goal.uses-uses-requires
uses-uses-requires g c = has_place c.args.p c.args.core.now.state c.args.outcome c.requires

pub loaded_by-requires-clause-processor : goal.loaded_by-requires-clause-processor
loaded_by-requires-clause-processor g c = has_place c.args.p c.args.core.now.state c.args.outcome c.requires
