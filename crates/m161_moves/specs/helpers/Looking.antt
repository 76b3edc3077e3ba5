use Rattle.std.specs.Prelude.{◌≡◌, List, Option, None}
use Rattle.m161_gdb.specs.declared.packet.Motion.{Motion}
use Rattle.m161_gdb.specs.Stops.{StopsValue}
use Rattle.m161_moves.specs.declared.run.StepSeen.{StepSeen}
use Rattle.m161_moves.specs.Stopping.{break_of, step_of, touch_of}

-- Events, as far as stops tell them apart.

-- what is seen of one event stands for another: nothing that stops tells them apart
pub record StandsFor (stops : StopsValue) (chosen : List (Option Motion)) (event seen : Option StepSeen) : Type 0 where
  pub breaks : break_of stops chosen seen ≡ break_of stops chosen event
  pub steps : step_of chosen seen ≡ step_of chosen event
  pub touches : touch_of stops chosen seen ≡ touch_of stops chosen event

-- nothing stops at a Step
abbrev pub StopAtNoStep : StopsValue → List (Option Motion) → Type 0
StopAtNoStep stops chosen = (event : Option StepSeen) → StandsFor stops chosen event None
