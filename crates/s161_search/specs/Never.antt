use Rattle.std.specs.Prelude.{◌≡◌, ℕ, List, [], ◌∷◌, slice_get, take, None, Some}
use Rattle.m161_audit.specs.Watch.{AreGood}
use Rattle.m161_debug.specs.Commands.{IsPlace}
use Rattle.m161_machine.specs.History.{boot_fault}
use Rattle.s161_base.specs.Naming.{image_symbols}
use Rattle.s161_command.specs.declared.task.SearchTask.{SearchTask}
use Rattle.s161_search.specs.Given.{Given}

-- The addresses that no Step is to reach.

-- the addresses that these words stand for, each as in the debugger
abbrev pub AreAddresses : List (List ℕ × ℕ) → List (List ℕ) → List ℕ → Type 0
AreAddresses symbols [] addresses = addresses ≡ []
AreAddresses symbols (word ∷ words) [] = ⊥
AreAddresses symbols (word ∷ words) (address ∷ addresses) =
    IsPlace symbols address word × AreAddresses symbols words addresses

-- the symbols of the image that was read
abbrev pub symbols_in : SearchTask → Given → List (List ℕ × ℕ)
symbols_in task given = image_symbols task.image.now given.file

-- the first of these words that stands for none
pub record IsUnknown (symbols : List (List ℕ × ℕ)) (words : List (List ℕ)) (word : List ℕ)
    : Type 0 where
  pub place : ℕ
  pub word_is : slice_get words place ≡ Some word
  pub addresses : List ℕ
  pub before : AreAddresses symbols (take place words) addresses
  pub unknown : (address : ℕ) → IsPlace symbols address word → ⊥

-- it is told where the image can be booted, and no watch is bad
pub record LacksAddress (task : SearchTask) (never : List (List ℕ)) (given : Given) (word : List ℕ)
    : Type 0 where
  pub is_unknown : IsUnknown (symbols_in task given) never word
  pub boots : boot_fault given.file given.conf ≡ None
  pub good : (k : ℕ) → AreGood given.conf.ram given.watches k
