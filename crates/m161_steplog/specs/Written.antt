use Rattle.std.specs.Prelude.{ℕ, zero, suc, ◌+◌, ◌/◌, ◌%◌, ◌==◌, if◌then◌else◌, List, [], ◌∷◌, ◌++◌, map, flat_map, replicate}
use Rattle.m161_machine.specs.declared.event.Event.{Event}
use Rattle.m161_machine.specs.declared.event.Event.TheVariants as events
use Rattle.m161_text.specs.Lines.{text_of}
use Rattle.m161_steplog.specs.Schedule.{ScheduleLine, line_text}

-- The text that a schedule is written as: Steps of one processor side by side share a line.

-- Steps of one processor side by side, or one other event
pub data Block : Type 0 where
  Steps : (p n : ℕ) → Block
  Other : (event : Event) → Block

-- a Step of p before blocks: it joins the first one, if that has Steps of p
abbrev pub step_before : ℕ → List Block → List Block
step_before p [] = Steps p 1 ∷ []
step_before p (Steps q n ∷ bs) =
    if p == q then Steps q (n + 1) ∷ bs else Steps p 1 ∷ Steps q n ∷ bs
step_before p (Other e ∷ bs) = Steps p 1 ∷ Other e ∷ bs

abbrev pub event_before : Event → List Block → List Block
event_before (events.Step p) bs = step_before p bs
event_before (events.Key byte) bs = Other (events.Key byte) ∷ bs
event_before events.Done bs = Other events.Done ∷ bs

abbrev pub blocks : List Event → List Block
blocks [] = []
blocks (e ∷ es) = event_before e (blocks es)

-- n Steps of p in one line; no Steps have no line
abbrev pub steps_line : ℕ → ℕ → List ScheduleLine
steps_line p zero = []
steps_line p (suc zero) = ScheduleLine.Once (events.Step p) ∷ []
steps_line p (suc (suc n)) = ScheduleLine.Times p (suc (suc n)) ∷ []

-- as many full lines of Steps as there are, then the rest in one
abbrev pub block_lines : Block → List ScheduleLine
block_lines (Steps p n) =
    replicate (n / 1_000_000) (ScheduleLine.Times p 1_000_000)
    ++ steps_line p (n % 1_000_000)
block_lines (Other e) = ScheduleLine.Once e ∷ []

abbrev pub written_lines : List Event → List ScheduleLine
written_lines es = flat_map block_lines (blocks es)

unfoldable pub schedule_text : List Event → List ℕ
schedule_text es = text_of (map line_text (written_lines es))
