use Rattle.std.proofs.Common.{◌≡◌, length}
use Rattle.m161_explore.specs.helpers.Keys.{AreLinked, parts}
use Rattle.m161_explore.proofs.keys.relink.Given as goal

abbrev pub invariant-loop-index : goal.invariant-loop-index
invariant-loop-index l = record {
  some : length l.heads ≡ length l.initial.heads;
  sizes : length l.before ≡ length l.initial.before;
  linked : AreLinked l.heads l.before (parts l.cuts l.words) l.index;
}
