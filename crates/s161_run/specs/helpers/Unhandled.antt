use Rattle.std.specs.Prelude.{◌≡◌, List, Option, None}
use Rattle.m161_elf.specs.declared.span.Span.{Span}
use Rattle.m161_machine.specs.declared.event.Event.{Event}
use Rattle.m161_machine.specs.State.{State}
use Rattle.m161_traps.specs.declared.traps.Trap.{Trap}
use Rattle.m161_traps.specs.Traps.{state_after}
use Rattle.m161_traps.specs.Unhandled.{first_unhandled}

-- Looking for a trap along events.

-- from s this is the first trap of these events for which an image has nothing; where there is none, all
-- were made, and led to t
pub record Looks
    (spans : List Span) (s : State) (events : List Event) (t : State) (found : Option Trap) : Type 0 where
  pub is_first : found ≡ first_unhandled spans s events
  pub leads : found ≡ None → t ≡ state_after s events
