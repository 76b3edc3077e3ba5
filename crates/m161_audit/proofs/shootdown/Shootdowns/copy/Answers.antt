use Rattle.std.proofs.Common.{◌∙◌, subst, sym, length}
use Rattle.std.specs.Prelude.{All}
use Rattle.m161_audit.specs.helpers.Progress.{AreInRanges, IsAtMost, IsWithin}
use Rattle.m161_audit.proofs.shootdown.Shootdowns.copy.Goals as goal

pub invariant_of-result : goal.invariant_of-result
invariant_of-result c = (
  subst (All (IsWithin c.self.inside.low c.self.inside.high)) (sym (c.in_ok-items.ensures ∙ c.as_slice.ensures.value)) c.self.invariant.0,
  subst (AreInRanges c.ranges_of-ranges.result.firsts c.ranges_of-ranges.result.pasts) c.as_slice-2.ensures.value c.ranges_of-ranges.ensures.ranges,
  subst (λ items. All (IsAtMost (length items)) c.ranges_of-ranges.result.pasts) c.as_slice-2.ensures.value c.ranges_of-ranges.ensures.bounded,
  c.ranges_of-ranges.ensures.firsts,
  c.ranges_of-ranges.ensures.pasts,
)
