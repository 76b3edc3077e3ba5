use Rattle.std.proofs.Common.{◌≡◌, ◌≤◌, ◌<◌, Some, subst, sym}
use Rattle.std.specs.Prelude.{slice_get, slice_index_or}
use Rattle.m161_audit.proofs.shootdown.Shootdowns.range.Goals as goal

pub returns-clause-range : goal.returns-clause-range
returns-clause-range c = λ i x at page over.
    subst (λ n. (slice_index_or c.self.inside.ranges.firsts n 0 ≤ i) × (i < slice_index_or c.self.inside.ranges.pasts n 0)) page
    (c.self.invariant.1 i x (subst (λ xs. slice_get xs i ≡ Some x) (sym c.self.view_is) at) over)
