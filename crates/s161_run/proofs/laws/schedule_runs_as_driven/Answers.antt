use Rattle.std.proofs.Common.{ap}
use Rattle.m161_machine.specs.State.{State}
use Rattle.s161_run.proofs.Scheduling.{runs_as_driven}
use Rattle.s161_run.proofs.laws.schedule_runs_as_driven.Goals as goal

pub returns : goal.returns
returns c = λ task files known text scheduled.
    let is_on = ap (λ (s : State). s.board.off) scheduled.boots.1.state_is in
    runs_as_driven scheduled.booted is_on scheduled.events scheduled.chose
