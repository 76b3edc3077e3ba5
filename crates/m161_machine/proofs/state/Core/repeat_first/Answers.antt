use Rattle.std.proofs.Common.{sym, take}
use Rattle.m161_machine.proofs.Transfers.{no_transfers}
use Rattle.m161_machine.proofs.state.Core.repeat_first.Goals as goal

pub returns-in-Step-clause-sent : goal.returns-in-Step-clause-sent
returns-in-Step-clause-sent g c =
    sym (no_transfers (take c.repeat_steps.result c.args.entries.now) c.repeat_steps.result c.in-Step.p c.repeat_steps.ensures.steps)
