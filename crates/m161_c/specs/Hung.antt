use Rattle.std.specs.Prelude.{◌≡◌, ◌⊎◌, ℕ, List, Option, None, Some, Result, Ok, Err}
use Rattle.m161_judge.specs.Verdict.{Criteria}
use Rattle.m161_machine.specs.declared.conf.BootError.{BootError}
use Rattle.m161_machine.specs.declared.conf.Conf.{Conf}
use Rattle.m161_machine.specs.declared.event.Event.{Event}
use Rattle.m161_machine.specs.History.{History, IsBootState, boot_fault, events_of}
use Rattle.m161_machine.specs.State.{State}
use Rattle.m161_reach.specs.declared.told.Told.{Told}
use Rattle.m161_reach.specs.Reach.{CanBeAsked}
use Rattle.m161_reach.specs.Told.{IsTold}
use Rattle.m161_c.specs.declared.answer.Judgement.{Judgement}
use Rattle.m161_c.specs.Explored.{AreAllGood, IsRefused}
use Rattle.m161_c.specs.Files.{number_of_boot}
use Rattle.m161_c.specs.Judged.{OfWhole, told_numbers}

-- The verdict of a search on the events that a machine has made; or why there is none, as a number.

abbrev pub TellsFrom : ℕ → Criteria → State → List Event → Result (Option Told) ℕ → Type 0
TellsFrom few goal booted events (Ok told) =
    AreAllGood booted goal × CanBeAsked booted goal × IsTold few goal booted events told
TellsFrom few goal booted events (Err answer) = IsRefused booted goal answer

-- of a machine of this size that is booted from a file
abbrev pub TellsBooted :
    Option BootError → List ℕ → Conf → ℕ → Criteria → List Event → Result (Option Told) ℕ → Type 0
TellsBooted (Some first) file conf few goal events result = result ≡ Err (number_of_boot (Err first))
TellsBooted None file conf few goal events result =
    (result ≡ Err 254)
    ⊎ ((booted : State) × IsBootState file conf booted × TellsFrom few goal booted events result)

-- it is told; or nothing
abbrev pub TellsVerdict : Result (Option Told) ℕ → ℕ → Judgement → Judgement → Type 0
TellsVerdict (Ok told) answer before after = (answer ≡ 0) × (after ≡ told_numbers told)
TellsVerdict (Err why) answer before after = (answer ≡ why) × (after ≡ before)

-- memory may be refused first
abbrev pub HungAs : Option History → List ℕ → ℕ → Criteria → ℕ → Judgement → Judgement → Type 0
HungAs machine file few goal answer before after = OfWhole machine answer before after (λ m.
    (answer ≡ 254) × (after ≡ before)
    ⊎ ((result : Result (Option Told) ℕ)
    × TellsBooted (boot_fault file m.start.conf) file m.start.conf few goal (events_of m.log) result
    × TellsVerdict result answer before after))
