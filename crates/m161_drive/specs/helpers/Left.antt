use Rattle.std.specs.Prelude.{◌≡◌, ℕ, List}
use Rattle.m161_drive.specs.declared.orders.OrderState.{OrderState}
use Rattle.m161_drive.specs.declared.orders.OrderState.TheVariants.{ByDelays}
use Rattle.m161_drive.specs.Delayed.{DelayState}

-- an order by turns with delays; another one is the same but for the delays that are left
abbrev pub HasLeft : OrderState → List ℕ → OrderState → Type 0
HasLeft o left new = (d : DelayState) × (o ≡ ByDelays d) × (new ≡ ByDelays (record d { left = left }))
