use Rattle.std.proofs.Common.{◌≡◌, rules, None}
use Rattle.m161_debug.specs.Breakpoints.{breakpoint, break_fault}
use Rattle.m161_debug.proofs.Obeying.{set_done}
use Rattle.m161_debug.proofs.session.Session.set.Goals as goal

pub returns : goal.returns
returns g c = λ rest.
    let fault = break_fault (breakpoint c.args.p c.args.address) c.args.self.now in
    let none : fault ≡ None = search rules in
    set_done c.args.self.now _ c.args.p c.args.address rest _ _ fault none (search rules) (search rules)
