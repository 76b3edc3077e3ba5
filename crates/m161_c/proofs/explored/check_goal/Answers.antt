use Rattle.std.proofs.Common.{ℕ, subst}
use Rattle.m161_audit.specs.Watch.{AreGood}
use Rattle.m161_c.specs.helpers.Explored.{IsUnwatched}
use Rattle.m161_c.proofs.Exploring.{unwatched}
use Rattle.m161_c.proofs.explored.check_goal.Goals as goal

pub check_fits-requires-clause-good : goal.check_fits-requires-clause-good
check_fits-requires-clause-good c =
    subst (λ g. (k : ℕ) → AreGood c.args.boot.now.state.conf.ram g.watches k) c.goal.view_is c.in-Ok.ensures.ok

pub returns-in-Err-clause-err : goal.returns-in-Err-clause-err
returns-in-Err-clause-err c =
    unwatched c.args.boot.now.state c.args.goal.now c.in-Err.answer
    (subst (λ g. IsUnwatched c.args.boot.now.state.conf.ram g.watches c.in-Err.answer) c.goal.view_is c.in-Err.ensures.err)
