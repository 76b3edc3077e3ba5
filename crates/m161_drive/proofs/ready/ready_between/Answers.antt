use Rattle.std.proofs.Common.{◌∙◌, sym, arith}
use Rattle.m161_drive.specs.Ready.{is_ready}
use Rattle.m161_drive.proofs.Finding.{find_done, find_here, find_skip}
use Rattle.m161_drive.proofs.ready.ready_between.Goals as goal

pub loop-p-preserved : goal.loop-p-preserved
loop-p-preserved g c =
    sym (find_skip (is_ready c.args.core.now.state) c.loop-p.p c.args.to c.loop-p-test.true (sym c.is_ready.ensures ∙ c.if-is_ready.false))
    ∙ c.loop-p.invariant

pub returns-then-is_ready : goal.returns-then-is_ready
returns-then-is_ready g c =
    sym (find_here (is_ready c.args.core.now.state) c.loop-p.p c.args.to c.loop-p-test.true (sym c.is_ready.ensures ∙ c.if-is_ready.true))
    ∙ c.loop-p.invariant

pub returns : goal.returns
returns g c = sym (find_done (is_ready c.args.core.now.state) c.loop-p.p c.args.to (omega arith)) ∙ c.loop-p.invariant
