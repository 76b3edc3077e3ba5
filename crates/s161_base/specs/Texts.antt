use Rattle.std.specs.Prelude.{ℕ, List}
use Rattle.m161_text.specs.Lines.{FirstBad}
use Rattle.m161_steplog.specs.Comments.{IsFirstBadOfLog}
use Rattle.m161_steplog.specs.Schedule.{AreScheduleLines}
use Rattle.s161_base.specs.declared.fault.Fault.{Fault}
use Rattle.s161_base.specs.declared.fault.Fault.TheVariants.{Log, Memory, Schedule}

-- Texts of schedules and of logs.

-- a text isn't a schedule, by its first bad line; or memory was refused
abbrev pub IsScheduleFault : List ℕ → Fault → Type 0
IsScheduleFault text (Schedule n) = FirstBad AreScheduleLines text n
IsScheduleFault text Memory = Unit {0}
IsScheduleFault text _ = ⊥

-- a text isn't a log, by its first bad line; or memory was refused
abbrev pub IsLogFault : List ℕ → Fault → Type 0
IsLogFault text (Log n) = IsFirstBadOfLog text n
IsLogFault text Memory = Unit {0}
IsLogFault text _ = ⊥
