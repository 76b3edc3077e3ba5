use Rattle.std.proofs.Common.{◌≡◌, ◌*◌, take}
use Rattle.m161_alike.specs.Addresses.{addresses_in}
use Rattle.m161_alike.proofs.addresses.read_addresses.Given as goal

-- the addresses before the words so far
abbrev pub invariant-loop-i : goal.invariant-loop-i
invariant-loop-i l = l.addresses.items ≡ addresses_in (take (2 * l.i) l.words)
