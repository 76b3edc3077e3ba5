use Rattle.std.specs.Prelude.{ℕ, ◌-◌, ◌^◌, min, nat_lt, nat_le, ◌==◌, ◌&&◌, if◌then◌else◌, List, length, filter, map, slice_index, take, Option, None, Some}
use Rattle.std.specs.List.{fold}
use Rattle.m161_order.specs.declared.delays.Delays.{Delays}
use Rattle.m161_order.specs.declared.delays.DelayError.{DelayError}
use Rattle.m161_order.specs.declared.delays.DelayError.TheVariants.{TooMany, Descending}

-- Lists of delays. Each number says how many choices further on a delay comes.

-- the numbers
abbrev pub delays_of : Delays → List ℕ
delays_of delays = take delays.count delays.numbers

-- why a number isn't added behind these
abbrev pub delay_fault : List ℕ → ℕ → Option DelayError
delay_fault numbers number =
    if length numbers == 64 then Some TooMany
    else if nat_lt 0 (length numbers) && nat_lt number (slice_index numbers (length numbers - 1)) then Some Descending
    else None

-- those that are left n choices further on, seen from there
abbrev pub behind : ℕ → List ℕ → List ℕ
behind n numbers = map (λ k. k - n) (filter (nat_le n) numbers)

-- how many choices, this one the first, have no delay: the least number, or 2^32 - 1 without one
abbrev pub until_due : List ℕ → ℕ
until_due numbers = fold min (2 ^ 32 - 1) numbers
