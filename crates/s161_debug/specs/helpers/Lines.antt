use Rattle.std.specs.Prelude.{◌≡◌, ℕ, List, ◌++◌, Option, None, Some, Result, Ok, Err, String, Vec, string_bytes}
use Rattle.std.specs.Global.{Global}
use Rattle.m161_machine.specs.declared.event.Event.{Event}
use Rattle.m161_machine.specs.History.{boot_state, events_of}
use Rattle.m161_debug.specs.declared.jump.JumpError.{JumpError}
use Rattle.m161_debug.specs.declared.jump.JumpError.TheVariants.{NoMemory}
use Rattle.m161_debug.specs.Breakpoints.{SessionState}
use Rattle.m161_debug.specs.Jumps.{Jumps, jump_fault}
use Rattle.s161_debug.specs.declared.answer.Reply.{Reply}
use Rattle.s161_debug.specs.declared.answer.Reply.TheVariants.{Made, Fixed}
use Rattle.s161_debug.specs.Traces.{last_lines}

-- What a line prints, and the result of a jump.

-- the bytes of what a line prints
abbrev pub printed_by : Reply → List ℕ
printed_by (Made text) = string_bytes text
printed_by (Fixed text) = text.now

-- the session went to the state before event k, and these are the remaining events; or it didn't,
-- and they stay
abbrev pub Jumped :
    ℕ → SessionState → List Event → Result (String Global) JumpError → SessionState → List Event →
    Type 0
Jumped k s events (Ok text) t left =
    (undone : Vec Event Global) × Jumps (jump_fault k s.machine) k s (Ok undone) t
    × (left ≡ undone.items ++ events)
Jumped k s events (Err e) t left =
    Jumps (jump_fault k s.machine) k s (Err e) t × (left ≡ events)

-- the lines of the last n events, or the first reason not to show them; or memory was refused
abbrev pub Traced :
    Option JumpError → ℕ → SessionState → Result (String Global) JumpError → Type 0
Traced (Some fault) n s (Ok text) = ⊥
Traced (Some fault) n s (Err e) = e ≡ fault
Traced None n s (Ok text) =
    string_bytes text
    ≡ last_lines s.style (boot_state s.machine.start) (events_of s.machine.log) n
Traced None n s (Err e) = e ≡ NoMemory
