use Rattle.std.specs.Prelude.{◌≡◌, ℕ, ◌==◌, if◌then◌else◌, List, [], ◌∷◌, ◌++◌, Option, MatchOption, decimal}
use Rattle.m161_machine.specs.declared.event.Event.{Event}
use Rattle.m161_machine.specs.declared.event.Event.TheVariants as events
use Rattle.m161_text.specs.Lines.{with_line_end}
use Rattle.m161_text.specs.Parts.{◌␣◌}
use Rattle.m161_steplog.specs.declared.schedule.Item.{Item}
use Rattle.m161_steplog.specs.declared.schedule.Item.TheVariants as items
use Rattle.m161_steplog.specs.Text.{event_text}
use Rattle.m161_steplog.specs.Schedule.{IsCount}
use Rattle.m161_steplog.specs.Written.{schedule_text}
use Rattle.m161_steplog.specs.helpers.Schedule.{item_events}

-- How a schedule is written: the events that wait for their line are an item.

-- how many times one line may have an event
abbrev pub IsTimesOf : Event → ℕ → Type 0
IsTimesOf (events.Step p) n = IsCount n
IsTimesOf (events.Key byte) n = n ≡ 1
IsTimesOf events.Done n = n ≡ 1

-- one line may have these events
abbrev pub IsItem : Item → Type 0
IsItem items.Nothing = Unit {0}
IsItem (items.Repeated e n) = IsTimesOf e n

-- a line of an event, so many times, with its end
abbrev pub times_text : Event → ℕ → List ℕ
times_text e n = with_line_end (if n == 1 then event_text e else event_text e ␣ decimal n)

-- no events have no line
abbrev pub item_text : Item → List ℕ
item_text items.Nothing = []
item_text (items.Repeated e n) = times_text e n

-- these events begin a line of their own after the item
abbrev pub Ends : Item → List Event → Type 0
Ends item es = schedule_text (item_events item ++ es) ≡ item_text item ++ schedule_text es

-- an event joins an item; or it begins a line, whatever follows
abbrev pub Joins : Item → Event → Option Item → Type 0
Joins item e result = MatchOption result ((es : List Event) → Ends item (e ∷ es))
    (λ more. IsItem more × (item_events more ≡ item_events item ++ e ∷ []))
