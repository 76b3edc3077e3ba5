use Rattle.std.specs.Prelude.{◌≡◌, ℕ, ◌+◌, ◌<◌, List, length, take, Option, None, Some, Result, Ok, Err}
use Rattle.m161_machine.specs.declared.conf.Conf.{Conf}
use Rattle.m161_machine.specs.declared.conf.BootError.{BootError}
use Rattle.m161_machine.specs.declared.conf.BootError.TheVariants.{NoMemory}
use Rattle.m161_machine.specs.declared.event.Entry.{Entry}
use Rattle.m161_machine.specs.State.{State}
use Rattle.m161_machine.specs.History.{History, Leads, IsBooted}
use Rattle.m161_steplog.specs.declared.verdict.Comparison.{Comparison}
use Rattle.m161_steplog.specs.declared.verdict.Comparison.TheVariants.{Agrees, Differs}

-- Whether a log is the log of a run from boot.

-- from s, the entries' events are accepted one after the other, each with its entry's outcome
abbrev pub Follows : State → List Entry → Type 0
Follows s log = (t : State) × Leads s log t

-- the whole log follows, or k entries do and k + 1 don't
abbrev pub IsVerdict : State → List Entry → Comparison → Type 0
IsVerdict s log Agrees = Follows s log
IsVerdict s log (Differs k) =
    (k < length log) × Follows s (take k log) × (Follows s (take (k + 1) log) → ⊥)

-- the verdict on a log, by the first reason not to boot: that reason; or, from the state at boot,
-- the verdict; or memory was refused
abbrev pub Verifies :
    List ℕ → Conf → Option BootError → List Entry → Result Comparison BootError → Type 0
Verifies file conf (Some first) log (Ok verdict) = ⊥
Verifies file conf (Some first) log (Err e) = e ≡ first
Verifies file conf None log (Ok verdict) =
    (m : History) × IsBooted file conf m × IsVerdict m.state log verdict
Verifies file conf None log (Err e) = e ≡ NoMemory
