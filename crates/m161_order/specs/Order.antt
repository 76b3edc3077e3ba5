use Rattle.std.specs.Prelude.{nat_lt, ◌==◌, if◌then◌else◌, Option, None, Some}
use Rattle.m161_order.specs.declared.order.Order.{Order}
use Rattle.m161_order.specs.declared.order.Order.TheVariants.{Turns, Delayed, Random, Priorities}
use Rattle.m161_order.specs.declared.order.OrderError.{OrderError}
use Rattle.m161_order.specs.declared.order.OrderError.TheVariants.{NoTurn, NoStretch, TooManyChanges}

-- The limits of an order's numbers.

-- the first number of an order that is outside its limits
abbrev pub order_fault : Order → Option OrderError
order_fault (Turns steps) = if steps == 0 then Some NoTurn else None
order_fault (Delayed turns delays) = if turns == 0 then Some NoTurn else None
order_fault (Random seed) = None
order_fault (Priorities seed changes within) =
    if within == 0 then Some NoStretch
    else if nat_lt 64 changes then Some TooManyChanges
    else None
