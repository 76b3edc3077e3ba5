use Rattle.std.specs.Prelude.{◌≡◌, ℕ, ◌+◌, ◌≤◌, List, [], ◌++◌, Option, Some, IfSome, replicate, length}
use Rattle.m161_machine.specs.declared.event.Event.{Event}
use Rattle.m161_steplog.specs.declared.schedule.Item.{Item}
use Rattle.m161_steplog.specs.declared.schedule.Item.TheVariants as items
use Rattle.m161_steplog.specs.Schedule.{ScheduleLine, line_text, line_events, IsLine}

abbrev pub item_events : Item → List Event
item_events items.Nothing = []
item_events (items.Repeated e n) = replicate n e

-- a line is read: the result has its events, or there is no such line
pub record ReadsLine (text : List ℕ) (result : Option Item) : Type 0 where
  pub found : IfSome result (λ item.
      (line : ScheduleLine) × IsLine line × (text ≡ line_text line)
      × (line_events line ≡ item_events item))
  pub only : (line : ScheduleLine) → IsLine line → text ≡ line_text line
      → (item : Item) × (result ≡ Some item) × (line_events line ≡ item_events item)

-- events were appended, within the limit
abbrev pub AddsEvents : List Event → List Event → List Event → Type 0
AddsEvents before added after =
    (after ≡ before ++ added) × (length before + length added ≤ 16_777_216)
