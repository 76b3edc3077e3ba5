use Rattle.std.proofs.Common.{◌≡◌, length, replicate, take}
use Rattle.m161_machine.specs.Stretch.{planned}
use Rattle.m161_machine.proofs.packed.plan_all.Given as goal

abbrev pub invariant-loop-place : goal.invariant-loop-place
invariant-loop-place l =
    (length l.places ≡ length l.fn.places) × (take l.place l.places ≡ replicate l.place (planned l.p))
