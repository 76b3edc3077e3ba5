use Rattle.std.specs.Prelude.{ℕ, zero, suc, ◌+◌, if◌then◌else◌, List, [], ◌∷◌, Option, None, Some}
use Rattle.m161_gdb.specs.declared.packet.Motion.{Motion}
use Rattle.m161_moves.specs.declared.reason.Reason.{Reason}
use Rattle.m161_moves.specs.declared.reason.Reason.TheVariants as reasons
use Rattle.m161_moves.specs.declared.run.StepSeen.{StepSeen}
use Rattle.m161_moves.specs.Course.{Course}
use Rattle.m161_moves.specs.Stopping.{is_resumed}

-- The processor of a stop.

-- that of the Step before a place, where the last one before it is given
abbrev pub processor_or : Option StepSeen → ℕ → ℕ
processor_or None p = p
processor_or (Some step) p = step.processor

-- the processor of the last Step before a place, 0 where there is none
abbrev pub last_processor : Course → ℕ → ℕ
last_processor course zero = 0
last_processor course (suc place) = processor_or (course.step place) (last_processor course place)

-- the least processor that is resumed, 0 where none is; these are the motions from processor p on
abbrev pub least_from : ℕ → List (Option Motion) → ℕ
least_from p [] = 0
least_from p (None ∷ others) = least_from (p + 1) others
least_from p (Some motion ∷ others) = p

abbrev pub least_resumed : List (Option Motion) → ℕ
least_resumed chosen = least_from 0 chosen

-- the processor of the Step that a reason names; else the last one, if that is resumed, or the least that is
abbrev pub thread_by : List (Option Motion) → ℕ → Reason → ℕ
thread_by chosen last (reasons.Step p) = p
thread_by chosen last (reasons.Break p address kind) = p
thread_by chosen last (reasons.Touch p watch) = p
thread_by chosen last reasons.Interrupt = if is_resumed chosen last then last else least_resumed chosen
thread_by chosen last reasons.Mark = if is_resumed chosen last then last else least_resumed chosen
thread_by chosen last reasons.End = if is_resumed chosen last then last else least_resumed chosen
thread_by chosen last reasons.Begin = if is_resumed chosen last then last else least_resumed chosen

abbrev pub thread_of : Course → List (Option Motion) → ℕ → Reason → ℕ
thread_of course chosen place reason = thread_by chosen (last_processor course place) reason
