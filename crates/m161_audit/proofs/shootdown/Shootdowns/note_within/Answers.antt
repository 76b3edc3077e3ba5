use Rattle.std.proofs.Common.{subst, sym, length}
use Rattle.std.specs.Prelude.{All}
use Rattle.m161_audit.specs.helpers.Progress.{AreInRanges, IsAtMost, IsWithin}
use Rattle.m161_audit.proofs.Walked.{still_within}
use Rattle.m161_audit.proofs.shootdown.Shootdowns.note_within.Goals as goal

pub invariant_of-self : goal.invariant_of-self
invariant_of-self c = (
  subst (All (IsWithin c.self.inside.low c.self.inside.high)) (sym c.note_store.ensures) (still_within c.self.inside.low c.self.inside.high c.args.word c.self.inside.items.items c.self.invariant.0),
  subst (AreInRanges c.ranges_of.result.firsts c.ranges_of.result.pasts) c.as_slice.ensures.value c.ranges_of.ensures.ranges,
  subst (λ items. All (IsAtMost (length items)) c.ranges_of.result.pasts) c.as_slice.ensures.value c.ranges_of.ensures.bounded,
  c.ranges_of.ensures.firsts,
  c.ranges_of.ensures.pasts,
)
