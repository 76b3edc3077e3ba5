use Rattle.std.proofs.Common.{◌≡◌, count_by}
use Rattle.std.specs.Prelude.{take}
use Rattle.m161_judge.specs.Verdict.{is_key}
use Rattle.m161_judge.proofs.events.count_keys.Given as goal

-- the keys so far
abbrev pub invariant-loop-event : goal.invariant-loop-event
invariant-loop-event l = l.count ≡ count_by is_key (take l.event-index l.events)
