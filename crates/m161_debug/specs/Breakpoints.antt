use Rattle.std.specs.Prelude.{◌≡◌, ℕ, Bool, false, not, nat_le, ◌==◌, ◌&&◌, if◌then◌else◌, List, [], ◌∷◌, ◌++◌, length, filter, Option, None, Some, Result, Ok, Err}
use Rattle.std.specs.List.{list_any}
use Rattle.m161_dis.specs.declared.naming.Style.{Style}
use Rattle.m161_machine.specs.History.{History}
use Rattle.m161_debug.specs.declared.breakpoints.Breakpoint.{Breakpoint}
use Rattle.m161_debug.specs.declared.breakpoints.BreakError.{BreakError}
use Rattle.m161_debug.specs.declared.breakpoints.BreakError.TheVariants.{BadProcessor, TooMany}

-- A session: a machine; a set of breakpoints, as the list of those that were set, the oldest first;
-- and how registers and addresses are shown, with the symbols by which an address may be named.

pub record SessionState : Type 0 where
  pub machine : History
  pub breakpoints : List Breakpoint
  pub style : Style

abbrev pub breakpoint : ℕ → ℕ → Breakpoint
breakpoint p address = record { processor = p; address = address }

abbrev pub is_same : Breakpoint → Breakpoint → Bool
is_same b c = (b.processor == c.processor) && (b.address == c.address)

-- a breakpoint is among these
abbrev pub has : Breakpoint → List Breakpoint → Bool
has b bs = list_any (is_same b) bs

-- a set with one more breakpoint, if it isn't there yet
abbrev pub with_breakpoint : Breakpoint → List Breakpoint → List Breakpoint
with_breakpoint b bs = if has b bs then bs else bs ++ b ∷ []

-- a set without a breakpoint
abbrev pub without_breakpoint : Breakpoint → List Breakpoint → List Breakpoint
without_breakpoint b bs = filter (λ c. not (is_same b c)) bs

-- no breakpoint is there twice
abbrev pub IsSet : List Breakpoint → Type 0
IsSet [] = Unit {0}
IsSet (b ∷ bs) = (has b bs ≡ false) × IsSet bs

-- why a breakpoint isn't set: there is no such processor, or there are 64 others
abbrev pub break_fault : Breakpoint → SessionState → Option BreakError
break_fault b s =
    if nat_le (length s.machine.state.processors) b.processor then Some BadProcessor
    else if not (has b s.breakpoints) && nat_le 64 (length s.breakpoints) then Some TooMany
    else None

-- the result of setting it
abbrev pub break_answer : Option BreakError → Result (Unit {0}) BreakError
break_answer None = Ok tt
break_answer (Some e) = Err e

-- the breakpoints after setting it: after a fault, those before
abbrev pub break_leaves : Option BreakError → Breakpoint → List Breakpoint → List Breakpoint
break_leaves None b bs = with_breakpoint b bs
break_leaves (Some e) b bs = bs
