use Rattle.std.specs.Prelude.{ℕ, ◌==◌, if◌then◌else◌, List, [], ◌∷◌, ◌++◌, codes, decimal}
use Rattle.m161_audit.specs.declared.finding.Finding.TheVariants as finding
use Rattle.m161_judge.specs.declared.verdict.Verdict.{Verdict}
use Rattle.m161_judge.specs.declared.verdict.Verdict.TheVariants.{Stale, Reached, Conflict, Stuck, Output, End}
use Rattle.m161_machine.specs.declared.event.Event.{Event}
use Rattle.m161_steplog.specs.Written.{schedule_text}
use Rattle.m161_text.specs.Lines.{with_line_end}
use Rattle.m161_text.specs.Parts.{◌␣◌, word_text}
use Rattle.m161_reach.specs.declared.told.SearchVerdict.{SearchVerdict}
use Rattle.m161_reach.specs.declared.told.SearchVerdict.TheVariants.{Run, Hung}
use Rattle.m161_machine.specs.declared.conf.Conf.{Conf}
use Rattle.s161_base.specs.Sizes.{size_line_text}
use Rattle.s161_search.specs.Audits.{finding_text}
use Rattle.s161_run.specs.Runs.{conflict_words}

-- What a search prints.

-- a stale use as the audit prints it, a reach as its place, processor and address, a conflict as a run does, else the verdict's name
abbrev pub verdict_text : Verdict → List ℕ
verdict_text (Stale place processor address row) =
    finding_text (finding.Stale place processor address row)
verdict_text (Reached place processor address) =
    codes "reached" ␣ decimal place ␣ decimal processor ␣ word_text address
verdict_text (Conflict conflict) = conflict_words conflict
verdict_text Stuck = codes "stuck"
verdict_text Output = codes "output"
verdict_text End = codes "end"

-- none of n runs goes wrong, and so many of them are cut
abbrev pub clean_text : ℕ → ℕ → List ℕ
clean_text n cut =
    if cut == 0 then codes "clean" ␣ decimal n
    else codes "clean" ␣ decimal n ␣ codes "cut" ␣ decimal cut

-- what tells the run: its seed
abbrev pub seed_text : ℕ → List ℕ
seed_text seed = codes "# seed" ␣ decimal seed

-- or its delays, a space before each
abbrev pub numbers_text : List ℕ → List ℕ
numbers_text [] = []
numbers_text (n ∷ ns) = codes " " ++ decimal n ++ numbers_text ns

abbrev pub delays_text : List ℕ → List ℕ
delays_text numbers = codes "# delays" ++ numbers_text numbers

abbrev pub told_text : SearchVerdict → List ℕ
told_text (Run v) = verdict_text v
told_text Hung = codes "hung"

-- a schedule that goes wrong: behind its machine line two comments tell the run and the verdict
abbrev pub found_text : Conf → List ℕ → SearchVerdict → List Event → List ℕ
found_text conf run verdict events =
    size_line_text conf ++ with_line_end run ++ with_line_end (codes "#" ␣ told_text verdict)
    ++ schedule_text events
