use Rattle.std.proofs.Common.{◌≡◌, map}
use Rattle.m161_order.specs.Delays.{delays_of}
use Rattle.s161_command.specs.Delays.{AreNumbers, number_of}
use Rattle.s161_command.proofs.delays.delays_in.Given as goal

-- the parts so far are such numbers, and these are the delays
abbrev pub invariant-loop-part : goal.invariant-loop-part
invariant-loop-part l =
    AreNumbers (map (λ part. part.now) l.yielded)
    × (delays_of l.delays ≡ map number_of (map (λ part. part.now) l.yielded))
