use Rattle.std.specs.Prelude.{ℕ, slice_get}
use Rattle.m161_delays.specs.Runs.{ChooseAlike}
use Rattle.m161_drive.specs.Choice.{cursor_at}
use Rattle.m161_machine.specs.State.{State}
use Rattle.m161_order.specs.declared.order.Order.TheVariants.{Turns}
use Rattle.m161_places.proofs.Alike.{choose_alike}
use Rattle.m161_c.specs.Delays.{offered_by}
use Rattle.m161_c.specs.Driven.{rules_in}
use Rattle.m161_c.specs.Seeds.{Asked}

-- The law that the search over lists of delays asks for.

pub offers_alike : (a : Asked) (steps : ℕ) (s : State) → ChooseAlike (offered_by a steps s)
offers_alike a steps s =
    choose_alike a.events (rules_in a.numbers (Turns steps) a.goal.keys) (slice_get a.goal.keys) (record { steps = steps; made = 0 })
    (cursor_at (rules_in a.numbers (Turns steps) a.goal.keys) s) s
