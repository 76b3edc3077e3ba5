use Rattle.std.specs.Prelude.{◌≡◌, ℕ, List}
use Rattle.m161_debug.specs.Commands.{IsPlace}
use Rattle.s161_base.specs.declared.fault.Fault.{Fault}
use Rattle.s161_base.specs.declared.fault.Fault.TheVariants.{After, Conf, Image, Memory, Never, Watch}
use Rattle.s161_command.specs.declared.task.SearchTask.{SearchTask}
use Rattle.s161_search.specs.declared.inputs.Inputs.{Inputs}
use Rattle.s161_search.specs.Given.{Given}
use Rattle.s161_search.specs.Never.{AreAddresses, IsUnknown, LacksAddress, symbols_in}
use Rattle.s161_search.specs.Searches.{Prints}
use Rattle.s161_search.specs.Runs.{IsRunFault}
use Rattle.s161_search.specs.helpers.Inputs.{given_of}

-- What comes of the words that stand for addresses.

-- a word stands for none
abbrev pub IsNoAddress : List (List ℕ × ℕ) → List ℕ → Fault → Type 0
IsNoAddress symbols word (Never other) =
    (other.now ≡ word) × ((address : ℕ) → IsPlace symbols address word → ⊥)
IsNoAddress symbols word _ = ⊥

-- one of them stands for none; or memory was refused
abbrev pub IsWordFault : List (List ℕ × ℕ) → List (List ℕ) → Fault → Type 0
IsWordFault symbols words (Never word) = IsUnknown symbols words word.now
IsWordFault symbols words Memory = Unit {0}
IsWordFault symbols words _ = ⊥

-- what was read, with these addresses
abbrev pub with_addresses : Given → List ℕ → Given
with_addresses given addresses = record given { never = addresses }

abbrev pub HasNever : SearchTask → List (List ℕ) → Given → Inputs → Type 0
HasNever task words given inputs =
    (given_of inputs ≡ with_addresses given inputs.never.items)
    × AreAddresses (symbols_in task given) words inputs.never.items

-- what is printed and said of what was read, with the addresses of these words
abbrev pub PrintsFor : SearchTask → List (List ℕ) → Given → List ℕ → List ℕ → ℕ → Type 0
PrintsFor task words given text told status =
    (addresses : List ℕ) × AreAddresses (symbols_in task given) words addresses
    × Prints task (with_addresses given addresses) task.delays text told status

-- a word stands for no address, or a run can't be made
abbrev pub IsNeverFault : SearchTask → List (List ℕ) → Given → Fault → Type 0
IsNeverFault task words given (Never word) = LacksAddress task words given word.now
IsNeverFault task words given Conf = IsRunFault given Conf
IsNeverFault task words given (Image e) = IsRunFault given (Image e)
IsNeverFault task words given (Watch k) = IsRunFault given (Watch k)
IsNeverFault task words given (After k why) =
    (addresses : List ℕ) × AreAddresses (symbols_in task given) words addresses
    × IsRunFault given (After k why)
IsNeverFault task words given Memory = Unit {0}
IsNeverFault task words given _ = ⊥
