use Rattle.m161_asm.proofs.Filled.{reopened}
use Rattle.m161_asm.proofs.second.SecondPass.advance.Goals as goal

pub returns-in_ok-open-in-Some : goal.returns-in_ok-open-in-Some
returns-in_ok-open-in-Some c =
    let e = c.in_ok-open-in-Some.ensures in
    rw c.in-Some.is
    (reopened c.args.self.now c.open.new.self c.in-Some.address c.args.size e.done e.current
    e.address e.entry)
