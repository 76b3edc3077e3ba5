use Rattle.m161_machine.specs.State.{processor_at}
use Rattle.m161_replay.proofs.Seeing.{NoneBelow}
use Rattle.m161_replay.proofs.views.lowest_row.Given as goal

-- none of the rows before this one matches
abbrev pub invariant-loop-i : goal.invariant-loop-i
invariant-loop-i g l = NoneBelow (processor_at l.p l.core.state.processors).rows l.page l.id l.i
