use Rattle.std.proofs.Common.{◌≡◌, drop}
use Rattle.m161_states.specs.Verdicts.{is_stale_for, some_watch}
use Rattle.m161_reach.proofs.judge.is_stale.Given as goal

-- the watches that are left decide it
abbrev pub invariant-loop-i : goal.invariant-loop-i
invariant-loop-i g l =
    let test = is_stale_for l.core.state l.p l.via in
    some_watch test (drop l.i l.watches) (drop l.i l.kept) ≡ some_watch test l.watches l.kept
