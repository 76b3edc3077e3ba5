use Rattle.std.proofs.Common.{◌≡◌, ◌-◌, ◌++◌, length}
use Rattle.std.specs.List.{range_with_len}
use Rattle.m161_jobs.specs.Trials.{AreRight}
use Rattle.m161_jobs.specs.helpers.Parts.{part_start}
use Rattle.m161_jobs.proofs.parts.first_of.Given as goal

-- the parts so far are right
abbrev pub invariant-loop-part : goal.invariant-loop-part
invariant-loop-part g l = record {
  parts : l.fn.parts.items ≡ l.yielded ++ l.part-iterator.rest.items;
  right : AreRight (g.T.Trials.right l._trials) (range_with_len l.from (part_start l.from l.count l.size (length l.yielded) - l.from)) l.cut;
}
