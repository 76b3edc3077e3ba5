use Rattle.std.proofs.Common.{ℕ, List, Option, None, Some, Ok}
use Rattle.m161_judge.specs.Judge.{BootsState}
use Rattle.m161_machine.specs.declared.conf.BootError.{BootError}
use Rattle.m161_machine.specs.declared.conf.Conf.{Conf}
use Rattle.m161_machine.specs.History.{IsBootState, boot_fault}
use Rattle.m161_machine.specs.State.{State}
use Rattle.s161_search.specs.Given.{Given}
use Rattle.s161_search.specs.helpers.Begun.{BeginsAt}

-- States at boot.

begun : (file : List ℕ) (conf : Conf) (s : State) (fault : Option BootError) → BootsState file conf fault (Ok s) → IsBootState file conf s
begun file conf s (Some first) h = absurd h
begun file conf s None h = h

-- the state at boot
pub begins : (given : Given) (s : State) → BeginsAt given s → IsBootState given.file given.conf s
begins given s h = begun given.file given.conf s (boot_fault given.file given.conf) h
