use Rattle.std.specs.Prelude.{ℕ, Bool, false, ◌||◌, bytes_eq, List, Option, None, Some, codes}

-- The commands that may read a schedule from standard input.

-- the word behind the program's name, if there is one, names such a command
abbrev pub is_scheduled : Option (List ℕ) → Bool
is_scheduled None = false
is_scheduled (Some word) =
    bytes_eq word (codes "run") || bytes_eq word (codes "trace") || bytes_eq word (codes "audit")
