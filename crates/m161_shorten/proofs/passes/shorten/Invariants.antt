use Rattle.std.proofs.Common.{◌≤◌, length, ℕ}
use Rattle.m161_shorten.specs.Blocks.{blocks}
use Rattle.m161_shorten.specs.Passes.{first_place, GoesOn}
use Rattle.m161_shorten.specs.Verdicts.{AreSame, Needs}
use Rattle.m161_shorten.proofs.Measures.{IsFrom, weight}
use Rattle.m161_shorten.proofs.passes.shorten.Given as goal

-- the places so far
abbrev pub invariant-loop-passes : goal.invariant-loop-passes
invariant-loop-passes g l = record {
  places : (n : ℕ) × GoesOn (g.J.Kind.PartialEq.eq l.kind) (g.J.Judge.judges l.fn.judge) n (first_place l.fn.events.items) l.passes;
  few : length l.passes.events ≤ length l.fn.events.items;
  judged : IsFrom (Needs (g.J.Kind.PartialEq.eq l.kind) (g.J.Judge.judges l.fn.judge)) l.fn.events.items l.passes.events;
  fewer : length (blocks l.passes.events) ≤ length (blocks l.fn.events.items);
  same : AreSame (g.J.Judge.judges l.fn.judge) (g.J.Judge.judges l.judge);
}

abbrev pub decreases-loop-passes : goal.decreases-loop-passes
decreases-loop-passes g l = weight (length l.fn.events.items) l.passes
