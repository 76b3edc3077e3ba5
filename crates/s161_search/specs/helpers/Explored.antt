use Rattle.std.specs.Prelude.{ℕ, List}
use Rattle.s161_command.specs.declared.task.SearchTask.{SearchTask}
use Rattle.s161_search.specs.Explores.{PrintsExplored}
use Rattle.s161_search.specs.Given.{Given}
use Rattle.s161_search.specs.Never.{AreAddresses, symbols_in}
use Rattle.s161_search.specs.helpers.Never.{with_addresses}

-- What an exploration comes to.

-- what is printed and said of what was read, with the addresses of these words
abbrev pub PrintsExploredFor : SearchTask → ℕ → List (List ℕ) → Given → List ℕ → List ℕ → ℕ → Type 0
PrintsExploredFor search limit words given text told status =
    (addresses : List ℕ) × AreAddresses (symbols_in search given) words addresses
    × PrintsExplored limit (with_addresses given addresses) text told status
