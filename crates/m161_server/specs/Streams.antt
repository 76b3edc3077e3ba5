use Rattle.std.specs.Prelude.{ℕ, List, [], ◌∷◌, take, Option, None, Some}
use Rattle.std.specs.Io.KnownBytes.{Appends, Consumes, IsAtEnd}

-- What is read of an input and written to an output as a session goes on.

-- what an input had and has left, and what an output had and has, as far as the bytes are known
pub record Streams : Type 0 where
  pub input : Option (List ℕ)
  pub left : Option (List ℕ)
  pub before : Option (List ℕ)
  pub after : Option (List ℕ)

abbrev pub streams :
    Option (List ℕ) → Option (List ℕ) → Option (List ℕ) → Option (List ℕ) → Streams
streams input left before after = record {
  input = input;
  left = left;
  before = before;
  after = after;
}
