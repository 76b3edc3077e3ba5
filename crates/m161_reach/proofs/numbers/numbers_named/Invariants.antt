use Rattle.std.proofs.Common.{◌≡◌, ◌++◌, drop}
use Rattle.std.specs.Prelude.{option_map}
use Rattle.m161_reach.specs.Named.{numbers_named}
use Rattle.m161_reach.proofs.numbers.numbers_named.Given as goal

-- the numbers so far, and those of the events that are left
abbrev pub invariant-loop-event : goal.invariant-loop-event
invariant-loop-event l =
    numbers_named l.processors l.keys 0 l.events
    ≡ option_map (λ rest. l.numbers.items ++ rest) (numbers_named l.processors l.keys l.typed (drop l.event-index l.events))
