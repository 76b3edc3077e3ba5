use Rattle.std.specs.Prelude.{◌≡◌, ℕ, List, Option, Result, Ok, Err}
use Rattle.std.specs.Io.KnownBytes.{Appends}
use Rattle.s161_base.specs.declared.fault.Fault.{Fault}
use Rattle.s161_base.specs.declared.fault.Fault.TheVariants.{Output}
use Rattle.s161_base.specs.Streams.{AppendsSome}

-- A piece of a line.

-- a text was written; or the output failed, and some of it was
abbrev pub Puts :
    Option (List ℕ) → List ℕ → Result (Unit {0}) Fault → Option (List ℕ) → Type 0
Puts before text (Ok done) after = Appends before after text
Puts before text (Err fault) after = (fault ≡ Output) × AppendsSome before after text
