use Rattle.std.specs.Prelude.{false, List, [], Option, None, length, slice_index_or}
use Rattle.m161_moves.specs.declared.doing.Activity.TheVariants as activities
use Rattle.m161_moves.specs.declared.run.StepSeen.{StepSeen}
use Rattle.m161_moves.specs.Course.{Course}
use Rattle.m161_moves.specs.Scenes.{Scene}

-- one processor, of which nothing is known
abbrev pub nothing_seen : Scene
nothing_seen = record {
  processors = 1;
  count = 0;
  doing = λ place p. record { activity = activities.Stopped; is_user = false; in_slot = false };
  register = λ place p number. None;
  byte = λ place p address. None;
  console = λ place. [];
  next = λ place. [];
  schedule_text = λ place. [];
  trace_text = λ place number. [];
  where_text = λ place. [];
  registers_text = λ place p. [];
  cop0_text = λ place p. [];
  tlb_text = λ place p. [];
  memory_text = λ place address number. None;
}

-- the run whose events these are
abbrev pub course_of : List (Option StepSeen) → Course
course_of events = record {
  end = length events;
  step = λ j. slice_index_or events j None;
  scene = nothing_seen;
}
