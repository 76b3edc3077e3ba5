use Rattle.std.proofs.Common.{◌≡◌, arith}
use Rattle.m161_machine.proofs.Advancing.{step_is_made}
use Rattle.m161_machine.proofs.state.Core.make.Goals as goal

pub returns-clause-made : goal.returns-clause-made
returns-clause-made g c =
    let one : c.advance-made.result ≡ 1 =
    omega (arith, c.advance-made.ensures.within, c.advance-made.ensures.some (omega arith)) in
    step_is_made c.args.p c.args.self.now.state c.advance-made.new.self.state c.advance-made.new.kept c.advance-made.result one c.advance-made.ensures.length c.advance-made.ensures.advances
