use Rattle.std.specs.Prelude.{ℕ, ◌+◌, ◌-◌, ◌*◌, ◌^◌, nat_lt, nat_le, ◌==◌, ◌&&◌, ◌||◌, Bool, if◌then◌else◌, List, [], ◌∷◌, Option, None, Some, is_some, codes, bytes_eq, length, take, drop, option_and_then}
use Rattle.m161_gdb.specs.Packets.{cut_at}
use Rattle.m161_server.specs.declared.words.Asked.{Asked}
use Rattle.m161_server.specs.declared.words.Asked.TheVariants as asks

-- The lines of the monitor.

-- Numbers.

-- the value of a digit, and of a number with a digit more, below 2^32
abbrev pub digit_value : ℕ → Option ℕ
digit_value c = if nat_le 48 c && nat_le c 57 then Some (c - 48) else None

abbrev pub below_limit : ℕ → Option ℕ
below_limit n = if nat_lt n (2 ^ 32) then Some n else None

abbrev pub with_digit : ℕ → ℕ → Option ℕ
with_digit n c = option_and_then (λ value. below_limit (n * 10 + value)) (digit_value c)

-- the number whose first digits have the value n and are followed by these
abbrev pub digits_from : ℕ → List ℕ → Option ℕ
digits_from n [] = Some n
digits_from n (c ∷ cs) = option_and_then (λ m. digits_from m cs) (with_digit n c)

-- a decimal number below 2^32, without zeros before it
abbrev pub number_in : List ℕ → Option ℕ
number_in [] = None
number_in (c ∷ []) = digit_value c
number_in (c ∷ d ∷ cs) = if c == 48 then None else digits_from 0 (c ∷ d ∷ cs)

-- the value of a lower case hexadecimal digit, and of a number with one more
abbrev pub hex_value : ℕ → Option ℕ
hex_value c =
    if nat_le 48 c && nat_le c 57 then Some (c - 48)
    else if nat_le 97 c && nat_le c 102 then Some (c - 87)
    else None

abbrev pub with_hex : ℕ → ℕ → Option ℕ
with_hex n c = option_and_then (λ value. below_limit (n * 16 + value)) (hex_value c)

abbrev pub hex_from : ℕ → List ℕ → Option ℕ
hex_from n [] = Some n
hex_from n (c ∷ cs) = option_and_then (λ m. hex_from m cs) (with_hex n c)

-- one to eight of them
abbrev pub hex_number : List ℕ → Option ℕ
hex_number digits =
    if nat_le 1 (length digits) && nat_le (length digits) 8 then hex_from 0 digits else None

-- an address, behind `0x` or not
abbrev pub address_in : List ℕ → Option ℕ
address_in text =
    if bytes_eq (take 2 text) (codes "0x") then hex_number (drop 2 text) else hex_number text

-- What a line asks for.

-- a number, where another isn't one
abbrev pub with_number : (ℕ → Asked) → Option ℕ → Asked
with_number asked None = asks.BadArgument
with_number asked (Some n) = asked n

abbrev pub memory_by : Option ℕ → Option ℕ → Asked
memory_by None n = asks.BadArgument
memory_by (Some address) None = asks.BadArgument
memory_by (Some address) (Some n) = asks.Memory address n

abbrev pub memory_asked : Option (List ℕ × List ℕ) → Asked
memory_asked None = asks.BadArgument
memory_asked (Some parts) = memory_by (address_in parts.0) (number_in parts.1)

-- the words that stand alone
abbrev pub plain_word : List ℕ → Option Asked
plain_word word =
    if bytes_eq word (codes "at") then Some asks.At
    else if bytes_eq word (codes "why") then Some asks.Why
    else if bytes_eq word (codes "where") then Some asks.Where
    else if bytes_eq word (codes "output") then Some asks.Output
    else if bytes_eq word (codes "schedule") then Some asks.Schedule
    else if bytes_eq word (codes "help") then Some asks.Help
    else None

-- those that are of the general processor, where no other is named
abbrev pub general_word : List ℕ → Option Asked
general_word word =
    if bytes_eq word (codes "regs") then Some (asks.Registers None)
    else if bytes_eq word (codes "cop0") then Some (asks.Cop0 None)
    else if bytes_eq word (codes "tlb") then Some (asks.Tlb None)
    else None

-- and with what stands behind them
abbrev pub asked_with : List ℕ → List ℕ → Option Asked
asked_with word rest =
    if bytes_eq word (codes "regs") then Some (with_number (λ p. asks.Registers (Some p)) (number_in rest))
    else if bytes_eq word (codes "cop0") then Some (with_number (λ p. asks.Cop0 (Some p)) (number_in rest))
    else if bytes_eq word (codes "tlb") then Some (with_number (λ p. asks.Tlb (Some p)) (number_in rest))
    else if bytes_eq word (codes "goto") then Some (with_number asks.Goto (number_in rest))
    else if bytes_eq word (codes "trace") then Some (with_number asks.Trace (number_in rest))
    else if bytes_eq word (codes "memory") then Some (memory_asked (cut_at 32 rest))
    else None

-- the words that always have something behind them
abbrev pub is_asking : List ℕ → Bool
is_asking word =
    bytes_eq word (codes "goto") || bytes_eq word (codes "trace") || bytes_eq word (codes "memory")

-- a word that is one of these has a bad argument, and any other isn't known
abbrev pub bad_if : Bool → Asked
bad_if known = if known then asks.BadArgument else asks.Unknown

abbrev pub first_asked : Option Asked → Asked → Asked
first_asked None other = other
first_asked (Some asked) other = asked

abbrev pub asked_alone : List ℕ → Asked
asked_alone word =
    first_asked (plain_word word) (first_asked (general_word word) (bad_if (is_asking word)))

abbrev pub asked_in : List ℕ → List ℕ → Asked
asked_in word rest = first_asked (asked_with word rest) (bad_if (is_some (plain_word word)))

abbrev pub asked_by : List ℕ → Option (List ℕ × List ℕ) → Asked
asked_by line None = asked_alone line
asked_by line (Some parts) = asked_in parts.0 parts.1

-- a line: a word, and behind one space the rest
abbrev pub asked_of : List ℕ → Asked
asked_of line = asked_by line (cut_at 32 line)
