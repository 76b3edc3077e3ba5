use Rattle.std.specs.Prelude.{ℕ, Bool, false, nat_le}
use Rattle.s161_run.specs.declared.events.RunStop.{RunStop}
use Rattle.s161_run.specs.declared.events.RunStop.TheVariants.{Off, Conflict, End, Stuck, Refused}

-- How a run by an order stops behind first events.

-- an event behind so many was refused
abbrev pub is_refused_behind : RunStop → ℕ → Bool
is_refused_behind Off before = false
is_refused_behind (Conflict conflict) before = false
is_refused_behind End before = false
is_refused_behind Stuck before = false
is_refused_behind (Refused k refusal) before = nat_le before k
