use Rattle.std.specs.Prelude.{ℕ, zero, suc, ◌==◌, if◌then◌else◌, List, [], ◌∷◌, ◌++◌, Option, None, Some}
use Rattle.m161_gdb.specs.declared.packet.Motion.{Motion}
use Rattle.m161_gdb.specs.declared.packet.Motion.TheVariants as motions
use Rattle.m161_gdb.specs.declared.packet.Thread.{Thread}
use Rattle.m161_gdb.specs.declared.packet.Thread.TheVariants as threads

-- What processors do by a packet that resumes them.

-- the values at 0, 1 and so on, so many
abbrev pub tabulate : {X : Type 0} → (ℕ → X) → ℕ → List X
tabulate value zero = []
tabulate value (suc n) = tabulate value n ++ value n ∷ []

-- by a packet without actions all are resumed, or the one in control; a Step is made by that one, or else
-- by the general one
abbrev pub motion_by_control : Thread → ℕ → Motion → ℕ → Option Motion
motion_by_control threads.Any general motions.Continue p = Some motions.Continue
motion_by_control threads.Any general motions.Step p =
    if p == general then Some motions.Step else Some motions.Continue
motion_by_control (threads.Processor q) general motion p = if p == q then Some motion else None
