use Rattle.std.specs.Prelude.{◌≡◌, ◌≤◌, ◌==◌, ℕ, List, Option, None, Some, All, length, map}
use Rattle.std.specs.List.{slice_split}
use Rattle.std.specs.List.Sorted.{IsNonDecreasing}
use Rattle.std.specs.Str.Parse.{digits_value, without_leading_plus}
use Rattle.clap.specs.Words.{Text}
use Rattle.m161_order.specs.Delays.{delays_of}
use Rattle.m161_order.specs.declared.delays.Delays.{Delays}
use Rattle.s161_command.specs.Numbers.{IsNumber}

-- The option `--delayed`: at which choices ready processors are passed over.

-- what stands between the commas, and before the first and behind the last
abbrev pub parts_of : Text → List Text
parts_of text = slice_split (λ b. b == 44) text

-- the number that a part has
abbrev pub number_of : Text → ℕ
number_of part = digits_value 10 (without_leading_plus part)

-- parts are 1 to 64 numbers in ascending order; equal ones may follow each other
pub record AreNumbers (parts : List Text) : Type 0 where
  pub each : All IsNumber parts
  pub few : length parts ≤ 64
  pub ascending : IsNonDecreasing (map number_of parts)

-- a text is such numbers with commas between them
abbrev pub IsList : Text → Type 0
IsList text = AreNumbers (parts_of text)

-- the text of the option is a list of these delays
abbrev pub AreDelays : Option Text → Delays → Type 0
AreDelays None delays = ⊥
AreDelays (Some text) delays = IsList text × (delays_of delays ≡ map number_of (parts_of text))

-- the text of the option isn't a list
abbrev pub IsBadDelays : Option Text → Type 0
IsBadDelays None = ⊥
IsBadDelays (Some text) = ¬ IsList text
