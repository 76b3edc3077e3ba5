use Rattle.std.proofs.Common.{◌∙◌, sym, arith}
use Rattle.m161_drive.specs.Ready.{is_ticking}
use Rattle.m161_drive.proofs.Finding.{find_done, find_here, find_skip}
use Rattle.m161_drive.proofs.ready.ticking_between.Goals as goal

pub loop-p-preserved : goal.loop-p-preserved
loop-p-preserved g c =
    sym (find_skip (is_ticking c.args.core.now.state) c.loop-p.p c.args.to c.loop-p-test.true (sym c.is_ticking.ensures ∙ c.if-is_ticking.false))
    ∙ c.loop-p.invariant

pub returns-then-is_ticking : goal.returns-then-is_ticking
returns-then-is_ticking g c =
    sym (find_here (is_ticking c.args.core.now.state) c.loop-p.p c.args.to c.loop-p-test.true (sym c.is_ticking.ensures ∙ c.if-is_ticking.true))
    ∙ c.loop-p.invariant

pub returns : goal.returns
returns g c = sym (find_done (is_ticking c.args.core.now.state) c.loop-p.p c.args.to (omega arith)) ∙ c.loop-p.invariant
