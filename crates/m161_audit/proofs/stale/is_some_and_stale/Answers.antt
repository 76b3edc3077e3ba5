use Rattle.std.proofs.Common.{rules}
use Rattle.m161_audit.proofs.Judged.{none_by_test}
use Rattle.m161_audit.proofs.stale.is_some_and_stale.Goals as goal

pub returns-in-Some : goal.returns-in-Some
returns-in-Some g c = λ wrong watches s at v is.
    none_by_test watches s c.args.core.now.state c.args.shootdowns.now c.args.p c.args.via.now c.in-Some.via at (search rules) (c.is_stale.ensures.no wrong) v is
