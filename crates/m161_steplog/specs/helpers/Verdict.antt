use Rattle.std.specs.Prelude.{◌≡◌, Bool, true, false, Result, Ok, Err}
use Rattle.m161_machine.specs.declared.conf.BootError.{BootError}
use Rattle.m161_machine.specs.declared.conf.BootError.TheVariants.{NoMemory}
use Rattle.m161_machine.specs.declared.event.Entry.{Entry}
use Rattle.m161_machine.specs.State.{State, next}
use Rattle.m161_machine.specs.History.{Makes}

-- How the code checks one entry on a state: its event is accepted with its outcome; or not; or
-- memory was refused.
abbrev pub Repeats : State → Entry → State → Result Bool BootError → Type 0
Repeats s entry t (Ok true) = Makes s entry.event (Ok entry.outcome) t
Repeats s entry t (Ok false) = (u : State) → next s entry.event ≡ Ok (entry.outcome, u) → ⊥
Repeats s entry t (Err e) = e ≡ NoMemory
