use Rattle.std.specs.Prelude.{ℕ, ◌+◌, Bool, false, nat_lt, ◌==◌, ◌&&◌, if◌then◌else◌, List, [], ◌∷◌, length, count_by, slice_get, slice_index, Option, None, Some}
use Rattle.rand_pcg.specs.Lcg.{Lcg}
use Rattle.m161_machine.specs.State.{State}
use Rattle.m161_order.specs.Delays.{behind, delays_of}
use Rattle.m161_order.specs.declared.order.Order.{Order}
use Rattle.m161_order.specs.declared.order.Order.TheVariants as order
use Rattle.m161_drive.specs.declared.turns.Turns.{Turns}
use Rattle.m161_drive.specs.declared.orders.OrderState.{OrderState}
use Rattle.m161_drive.specs.declared.orders.OrderState.TheVariants.{InTurns, ByDelays, AtRandom, ByPriority}
use Rattle.m161_drive.specs.Delayed.{DelayState, passed, turned}
use Rattle.m161_drive.specs.Ready.{is_ready, next_behind, ready}
use Rattle.m161_drive.specs.Words.{after_word, below, seeded}
use Rattle.m161_drive.specs.Priorities.{PriorityState, after_step_at, highest, priorities_at_start}

-- The orders: which ready processor makes the next Step. A choice is that processor, or none if none
-- is ready, and the order then.

-- the last processor is in its turn, and may go on with it
abbrev pub goes_on : Turns → Option ℕ → State → Bool
goes_on t None s = false
goes_on t (Some p) s = nat_lt 0 t.made && nat_lt t.made t.steps && is_ready s p

-- a turn begins
abbrev pub begun : Option ℕ → Turns → Option ℕ × Turns
begun None t = (None, t)
begun (Some p) t = (Some p, record t { made = 1 })

abbrev pub by_turns : Turns → Option ℕ → State → Option ℕ × Turns
by_turns t last s =
    if goes_on t last s then (last, record t { made = t.made + 1 })
    else begun (next_behind (is_ready s) last s) t

-- so many ready processors are passed over as delays come at this choice
abbrev pub delayed : Option ℕ → Turns → DelayState → State → Option ℕ × DelayState
delayed None t d s = (None, d)
delayed (Some p) t d s =
    let q = passed (count_by (λ n. n == 0) d.left) p s in
    (Some q, record { turns = turned p q t; left = behind 1 d.left })

abbrev pub by_delays : DelayState → Option ℕ → State → Option ℕ × DelayState
by_delays d last s = delayed (by_turns d.turns last s).0 (by_turns d.turns last s).1 d s

-- one of these, by the next word; no word is drawn for none
abbrev pub one_of : List ℕ → Lcg → Option ℕ × Lcg
one_of [] g = (None, g)
one_of (p ∷ ps) g = (slice_get (p ∷ ps) (below (length (p ∷ ps)) g), after_word g)

abbrev pub by_words : Lcg → State → Option ℕ × Lcg
by_words g s = one_of (ready s) g

abbrev pub at_place : Option ℕ → PriorityState → Option ℕ × PriorityState
at_place None r = (None, r)
at_place (Some k) r = (Some (slice_index r.processors k), after_step_at k r)

abbrev pub by_priority : PriorityState → State → Option ℕ × PriorityState
by_priority r s = at_place (highest r s) r

-- the choice by any order; `last` is the processor of the last Step that was chosen
abbrev pub by_order : OrderState → Option ℕ → State → Option ℕ × OrderState
by_order (InTurns t) last s = ((by_turns t last s).0, InTurns (by_turns t last s).1)
by_order (ByDelays d) last s = ((by_delays d last s).0, ByDelays (by_delays d last s).1)
by_order (AtRandom g) last s = ((by_words g s).0, AtRandom (by_words g s).1)
by_order (ByPriority r) last s = ((by_priority r s).0, ByPriority (by_priority r s).1)

-- a Step that the order didn't choose ends a turn
abbrev pub interrupted : OrderState → OrderState
interrupted (InTurns t) = InTurns (record t { made = 0 })
interrupted (ByDelays d) = ByDelays (record d { turns = record d.turns { made = 0 } })
interrupted (AtRandom g) = AtRandom g
interrupted (ByPriority r) = ByPriority r

-- an order at the start of a run on n processors
abbrev pub order_at_start : Order → ℕ → OrderState
order_at_start (order.Turns steps) n = InTurns (record { steps = steps; made = 0 })
order_at_start (order.Delayed steps delays) n =
    ByDelays (record { turns = record { steps = steps; made = 0 }; left = delays_of delays })
order_at_start (order.Random seed) n = AtRandom (seeded seed)
order_at_start (order.Priorities seed changes within) n =
    ByPriority (priorities_at_start seed changes within n)
