use Rattle.std.specs.Prelude.{◌≡◌, ℕ, ◌<◌, ◌^◌, Bool, false, List, Option, None, Some, bytes_eq, codes, is_some}
use Rattle.std.specs.Str.Parse.{IsNumeral, digits_value, without_leading_plus}
use Rattle.clap.specs.Words.{Row, Text, first_of}

-- The numbers and the flags of options.

-- a number of 32 bits in decimal digits, optionally after a plus
abbrev pub IsNumber : Text → Type 0
IsNumber text =
    IsNumeral 10 (without_leading_plus text)
    × (digits_value 10 (without_leading_plus text) < 2 ^ 32)

-- an option's number is that of clap's text, if it is a number, else the default
pub record HasNumber (default : ℕ) (text : Text) (n : ℕ) : Type 0 where
  pub number : IsNumber text → n ≡ digits_value 10 (without_leading_plus text)
  pub other : ¬ IsNumber text → n ≡ default

abbrev pub IsNumberOf : ℕ → Option Text → ℕ → Type 0
IsNumberOf default None n = n ≡ default
IsNumberOf default (Some text) n = HasNumber default text n

-- an option's number is that of clap's text, if there is one and it is a number
abbrev pub IsNumberIf : Option Text → Option ℕ → Type 0
IsNumberIf None n = n ≡ None
IsNumberIf (Some text) None = ¬ IsNumber text
IsNumberIf (Some text) (Some n) =
    IsNumber text × (n ≡ digits_value 10 (without_leading_plus text))

-- an option without a default is given
abbrev pub is_given : Text → List Row → Bool
is_given name rows = is_some (first_of name rows)

-- clap gives this text for an option without a value
abbrev pub is_true : Option Text → Bool
is_true None = false
is_true (Some text) = bytes_eq text (codes "true")

-- an option without a value is given
abbrev pub is_set : Text → List Row → Bool
is_set name rows = is_true (first_of name rows)
