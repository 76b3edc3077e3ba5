use Rattle.m161_judge.specs.declared.verdict.Verdict.{Verdict}
use Rattle.m161_judge.specs.declared.verdict.Verdict.TheVariants as run
use Rattle.m161_reach.specs.declared.told.SearchVerdict.{SearchVerdict}
use Rattle.m161_reach.specs.declared.told.SearchVerdict.TheVariants.{Run, Hung}
use Rattle.m161_states.specs.declared.verdict.EventVerdict.{EventVerdict}
use Rattle.m161_states.specs.declared.verdict.EventVerdict.TheVariants.{Stale, Reached, Conflict, Stuck, Output}
use Rattle.m161_c.specs.declared.answer.VerdictNumbers.{VerdictNumbers}

-- The numbers of a verdict.

abbrev pub no_verdict : VerdictNumbers
no_verdict = record { kind = 0; processor = 0; address = 0; row = 0; other = 0 }

-- on a run; its place has none
abbrev pub run_verdict : Verdict → VerdictNumbers
run_verdict (run.Stale place p address row) =
    record no_verdict { kind = 1; processor = p; address = address; row = row }
run_verdict (run.Reached place p address) =
    record no_verdict { kind = 2; processor = p; address = address }
run_verdict (run.Conflict c) =
    record no_verdict { kind = 3; processor = c.processor; row = c.row; other = c.other }
run_verdict run.Stuck = record no_verdict { kind = 4 }
run_verdict run.Output = record no_verdict { kind = 5 }
run_verdict run.End = record no_verdict { kind = 6 }

-- of a search
abbrev pub search_verdict : SearchVerdict → VerdictNumbers
search_verdict (Run v) = run_verdict v
search_verdict Hung = record no_verdict { kind = 7 }

-- on a list that an exploration found: those of the same on a run, whatever its place
abbrev pub as_run : EventVerdict → Verdict
as_run (Stale p address row) = run.Stale 0 p address row
as_run (Reached p address) = run.Reached 0 p address
as_run (Conflict c) = run.Conflict c
as_run Stuck = run.Stuck
as_run Output = run.Output
