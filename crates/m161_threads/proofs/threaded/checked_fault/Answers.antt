use Rattle.m161_threads.proofs.Outcomes.{is_swapped, told}
use Rattle.m161_threads.proofs.threaded.checked_fault.Goals as goal
use Rattle.m161_threads.proofs.threaded.checked_fault.Goals.{in-Some, in-None}

pub returns : goal.returns
returns g c =
    elim c.match-steps_to.branch [
      | in-Some w ↦ rw (w.cause-is) (c.requires, c.replay.ensures.replay, λ _. (told c.replay.ensures.replay c.replay.ensures.boot c.replay.ensures.made c.replay.ensures.last, (w.in-Some.field-0, w.in-Some.ensures)))
      | in-None w ↦ rw (w.cause-is) (is_swapped c.args.before.now c.args.machine c.replay.ensures.replay)
    ]
