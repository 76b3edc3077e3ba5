use Rattle.std.specs.Prelude.{◌≡◌, ℕ, nat_lt, if◌then◌else◌, List, length, take, drop, Option, None, Some, Result, Ok, Err, Vec}
use Rattle.std.specs.declared.alloc.Global.{Global}
use Rattle.m161_machine.specs.declared.event.Event.{Event}
use Rattle.m161_machine.specs.History.{Continues, History, events_of, history_at_boot}
use Rattle.m161_debug.specs.declared.jump.JumpError.{JumpError}
use Rattle.m161_debug.specs.declared.jump.JumpError.TheVariants.{BadArgument, Dropped, NoMemory}
use Rattle.m161_debug.specs.Breakpoints.{SessionState}

-- Going back to an earlier event of a session.

-- the first reason not to go to the state before event k: fewer events were accepted; or the log
-- has dropped some of them
abbrev pub jump_fault : ℕ → History → Option JumpError
jump_fault k m =
    if nat_lt m.state.made k then Some BadArgument
    else if nat_lt (length m.log) m.state.made then Some Dropped
    else None

-- the session after it: the machine is booted anew, and the first k events of its log are made of
-- it; the others are undone. The breakpoints and the style stay
pub record JumpsTo (k : ℕ) (s : SessionState) (undone : List Event) (t : SessionState) : Type 0 where
  pub again : Continues (history_at_boot s.machine.start) (take k (events_of s.machine.log)) t.machine
  pub undone_are : undone ≡ drop k (events_of s.machine.log)
  pub breakpoints : t.breakpoints ≡ s.breakpoints
  pub style : t.style ≡ s.style

-- the result, by the first reason not to: that; or without one the events that are undone, or that
-- memory was refused. After an error the session is as it was
abbrev pub Jumps :
    Option JumpError → ℕ → SessionState → Result (Vec Event Global) JumpError → SessionState → Type 0
Jumps (Some fault) k s (Ok undone) t = ⊥
Jumps (Some fault) k s (Err e) t = (e ≡ fault) × (t ≡ s)
Jumps None k s (Ok undone) t = JumpsTo k s undone.items t
Jumps None k s (Err e) t = (e ≡ NoMemory) × (t ≡ s)
