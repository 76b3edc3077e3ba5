use Rattle.std.proofs.Common.{◌+◌, replicate}
use Rattle.m161_refusals.specs.helpers.Passing.{IsWithin, Passes}
use Rattle.m161_refusals.proofs.refusals.pass_run.Given as goal

-- the events so far were made
abbrev pub invariant-loop-made : goal.invariant-loop-made
invariant-loop-made g l = record {
  passes : Passes l.fn.core.state (replicate l.made l.event) l.place l.fn.found l.core.state l.found;
  within : IsWithin (l.place + l.made) l.found;
}
