use Rattle.std.proofs.Common.{arith, take_all}
use Rattle.m161_debug.proofs.Obeying.{first_is_all}
use Rattle.m161_debug.proofs.session.Session.go_first.Goals as goal

pub returns-else-n-rest : goal.returns-else-n-rest
returns-else-n-rest g c =
    first_is_all c.args.n c.args.self.now c.args.rest.now _ _ _ _ (take_all c.args.n c.args.rest.now (omega arith)) c.go_all-else-n-rest.ensures
