use Rattle.m161_refusals.specs.helpers.Passing.{IsWithin}
use Rattle.m161_refusals.proofs.Passing.{IsMade}
use Rattle.m161_refusals.proofs.refusals.find_refusals.Given as goal

-- the events so far were made, at most as many as are asked for
abbrev pub invariant-loop-event : goal.invariant-loop-event
invariant-loop-event g l = record {
  made : IsMade l.fn.core.state l.core.state l.events l.left l.n l.done l.found;
  within : IsWithin l.done l.found;
}
