use Rattle.std.proofs.Common.{rules}
use Rattle.m161_audit.proofs.Judged.{is_stale_via, none_by_test}
use Rattle.m161_audit.proofs.stale.stale_via.Goals as goal

pub returns-then-is_stale : goal.returns-then-is_stale
returns-then-is_stale g c = λ watches s at. (
  (search rules),
  is_stale_via watches s c.args.core.now.state c.args.shootdowns.now c.args.p c.in_ok-via.via at (c.is_stale.ensures.yes (search rules)),
)

pub returns-else-is_stale : goal.returns-else-is_stale
returns-else-is_stale g c = λ watches s at v is.
    none_by_test watches s c.args.core.now.state c.args.shootdowns.now c.args.p c.args.via c.in_ok-via.via at (search rules) (c.is_stale.ensures.no (search rules)) v is
