use Rattle.std.specs.Prelude.{◌≡◌, ℕ, ◌≤◌, List, [], ◌∷◌, map, flat_map, replicate, length, decimal}
use Rattle.std.specs.List.{AllByRecursion}
use Rattle.m161_machine.specs.declared.event.Event.{Event}
use Rattle.m161_machine.specs.declared.event.Event.TheVariants as events
use Rattle.m161_text.specs.Parts.{◌␣◌, IsWord}
use Rattle.m161_steplog.specs.Text.{event_text, IsEvent}

-- The text of a schedule: a list of events, in which one line may have several Steps.

-- a line of a schedule
pub data ScheduleLine : Type 0 where
  Blank : ScheduleLine
  Comment : (text : List ℕ) → ScheduleLine
  Once : (event : Event) → ScheduleLine
  Times : (p n : ℕ) → ScheduleLine

-- a comment begins with `#`
abbrev pub line_text : ScheduleLine → List ℕ
line_text Blank = []
line_text (Comment text) = 35 ∷ text
line_text (Once e) = event_text e
line_text (Times p n) = event_text (events.Step p) ␣ decimal n

abbrev pub line_events : ScheduleLine → List Event
line_events Blank = []
line_events (Comment text) = []
line_events (Once e) = e ∷ []
line_events (Times p n) = replicate n (events.Step p)

-- how many Steps one line may ask for
abbrev pub IsCount : ℕ → Type 0
IsCount n = (1 ≤ n) × (n ≤ 1_000_000)

-- the numbers of a line are within their limits
abbrev pub IsLine : ScheduleLine → Type 0
IsLine Blank = Unit {0}
IsLine (Comment text) = Unit {0}
IsLine (Once e) = IsEvent e
IsLine (Times p n) = IsWord p × IsCount n

-- these are the lines of a schedule with these events
pub record IsSchedule (lines : List (List ℕ)) (es : List Event) : Type 0 where
  pub content : List ScheduleLine
  pub each : AllByRecursion IsLine content
  pub text : lines ≡ map line_text content
  pub events : es ≡ flat_map line_events content
  pub room : length es ≤ 16_777_216

-- these are the lines of a schedule
abbrev pub AreScheduleLines : List (List ℕ) → Type 0
AreScheduleLines lines = (es : List Event) × IsSchedule lines es

-- How the code sees a line.
