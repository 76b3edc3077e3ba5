-- What commands do.
use Rattle.std.proofs.Common.{◌≡◌, refl, sym, subst, ℕ, Bool, true, false, if◌then◌else◌, replicate, List, ◌++◌, take, Option, None, Some, Result, Ok, Err, codes, decimal}
use Rattle.m161_machine.specs.declared.event.Event.{Event}
use Rattle.m161_machine.specs.declared.event.Event.TheVariants.{Step}
use Rattle.m161_text.specs.Parts.{◌␣◌, word_text}
use Rattle.std.specs.Option.{option_map}
use Rattle.m161_debug.specs.declared.breakpoints.BreakError.{BreakError}
use Rattle.m161_debug.specs.declared.breakpoints.BreakError.TheVariants as breaks
use Rattle.m161_debug.specs.declared.command.Change.TheVariants.{Set}
use Rattle.m161_debug.specs.declared.command.Command.TheVariants.{Breakpoint, Go, GoFirst, Steps}
use Rattle.m161_debug.specs.declared.command.CommandError.{CommandError}
use Rattle.m161_debug.specs.declared.command.CommandError.TheVariants.{BadArgument}
use Rattle.m161_debug.specs.declared.stop.StopReason.{StopReason}
use Rattle.m161_debug.specs.Stops.{Stops}
use Rattle.m161_debug.specs.Breakpoints.{SessionState, breakpoint, break_leaves}
use Rattle.m161_text.specs.Lines.{with_line_end}
use Rattle.m161_debug.specs.Obeys.{error_of_break, stop_text, used_by, HasEffectUnless, Goes}

-- the first events are all of them
pub first_is_all : (n : ℕ) (s : SessionState) (rest : List Event) (result : Result ℕ CommandError) (t : SessionState) (before after : List ℕ) → take n rest ≡ rest
    → HasEffectUnless None Go s rest result t before after → HasEffectUnless None (GoFirst n) s rest result t before after
first_is_all n s rest (Ok used) t before after all done =
    let P : List Event → Type 0 = λ es. Goes s es used t done.0 in
    (done.0, done.1, subst P (sym all) done.2)
first_is_all n s rest (Err e) t before after all failed = failed

-- a breakpoint is set, and its line appended
pub set_done : (s t : SessionState) (p address : ℕ) (rest : List Event) (before after : List ℕ) (fault : Option BreakError) → fault ≡ None
    → t ≡ record s { breakpoints = break_leaves fault (breakpoint p address) s.breakpoints }
    → after ≡ before ++ with_line_end (codes "break" ␣ decimal p ␣ word_text address)
    → HasEffectUnless (option_map error_of_break fault) (Breakpoint Set p address) s rest (Ok 0) t before after
set_done s t p address rest before after None none is text = (with_line_end (codes "break" ␣ decimal p ␣ word_text address), text, (refl, is, refl))
set_done s t p address rest before after (Some breaks.BadProcessor) none is text = absurd (cc)
set_done s t p address rest before after (Some breaks.TooMany) none is text = absurd (cc)

-- Steps are made up to a stop, and its line appended

pub no_fault_if : (b : Bool) → b ≡ true → ◌≡◌ {A = Option CommandError} (if b then None else Some BadArgument) None
no_fault_if true h = refl
no_fault_if false h = absurd (cc)

pub steps_done : (s t : SessionState) (p n : ℕ) (rest : List Event) (stop : StopReason) (before after : List ℕ) (fault : Option CommandError) → fault ≡ None
    → Stops s.breakpoints s.machine (replicate n (Step p)) stop t.machine → t.breakpoints ≡ s.breakpoints
    → t.style ≡ s.style → after ≡ before ++ with_line_end (stop_text stop t.machine.state.conflict)
    → HasEffectUnless fault (Steps p n) s rest (Ok 0) t before after
steps_done s t p n rest stop before after None none stops same style text = (
  with_line_end (stop_text stop t.machine.state.conflict),
  text,
  (refl, (used_by stop, record { stop = stop; stops = stops; breakpoints = same; style = style; used_is = refl; printed_is = refl })),
)
steps_done s t p n rest stop before after (Some fault) none stops same style text = absurd (cc)
