use Rattle.std.proofs.Common.{◌≡◌, ◌++◌, take, drop, string_bytes}
use Rattle.std.specs.List.{AllByRecursion}
use Rattle.m161_steplog.specs.Text.{IsEvent}
use Rattle.m161_steplog.specs.Written.{schedule_text}
use Rattle.m161_steplog.specs.helpers.Schedule.{item_events}
use Rattle.m161_steplog.specs.helpers.Written.{IsItem}
use Rattle.m161_steplog.proofs.written.write_schedule.Given as goal

abbrev pub invariant-loop-event : goal.invariant-loop-event
invariant-loop-event l = record {
  text : schedule_text l.events ≡ string_bytes l.text ++ schedule_text (item_events l.item ++ drop l.event-index l.events);
  item : IsItem l.item;
  fit : AllByRecursion IsEvent (take l.event-index l.events);
}
