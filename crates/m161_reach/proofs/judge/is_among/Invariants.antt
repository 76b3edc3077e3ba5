use Rattle.std.proofs.Common.{◌≡◌, drop}
use Rattle.std.specs.Prelude.{◌==◌}
use Rattle.std.specs.List.{list_any}
use Rattle.m161_reach.proofs.judge.is_among.Given as goal

-- the addresses that are left decide it
abbrev pub invariant-loop-i : goal.invariant-loop-i
invariant-loop-i l =
    list_any (λ a. a == l.address) (drop l.i l.addresses) ≡ list_any (λ a. a == l.address) l.addresses
