use Rattle.std.proofs.Common.{◌≡◌, ◌<◌, ◌≤◌, ℕ, false, Some}
use Rattle.std.specs.Prelude.{slice_get}
use Rattle.m161_audit.specs.declared.shootdown.Shootdown.{Shootdown}
use Rattle.m161_audit.specs.helpers.Progress.{is_stale_for}
use Rattle.m161_audit.proofs.stale.is_stale_among.Given as goal

-- the use is stale for none of the watches so far
abbrev pub invariant-loop-i : goal.invariant-loop-i
invariant-loop-i g l = (i : ℕ) (x : Shootdown) → l.first ≤ i → i < l.i → slice_get l.items i ≡ Some x → is_stale_for l.core.state l.p l.via x ≡ false
