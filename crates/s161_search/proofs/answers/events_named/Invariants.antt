use Rattle.std.proofs.Common.{◌≡◌, ◌++◌, drop}
use Rattle.m161_reach.specs.Named.{events_named}
use Rattle.s161_search.proofs.answers.events_named.Given as goal

-- the events so far, and those of the numbers that are left
abbrev pub invariant-loop-number : goal.invariant-loop-number
invariant-loop-number l =
    events_named l.processors l.keys 0 l.numbers
    ≡ l.events.items ++ events_named l.processors l.keys l.typed (drop l.number-index l.numbers)
