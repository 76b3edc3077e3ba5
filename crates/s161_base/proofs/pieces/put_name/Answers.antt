use Rattle.s161_base.proofs.Putting.{rest_failed, rest_goes_on}
use Rattle.s161_base.proofs.pieces.put_name.Goals as goal

pub returns-in_err-written : goal.returns-in_err-written
returns-in_err-written g c =
    let before = c.loop-rest.invariant in
    rest_failed (g.E.Write.contents c.args.errors.now) (g.E.Write.contents c.loop-rest.errors) (g.E.Write.contents c.put_front.new.errors) c.args.name.now
    before.0 c.loop-rest.rest.now before.1 before.2 c.in_err-written.field-0.0 c.from_residual.result c.in_err-written.ensures.err c.from_residual.ensures.1

pub loop-rest-preserved : goal.loop-rest-preserved
loop-rest-preserved g c =
    let before = c.loop-rest.invariant in
    rest_goes_on (g.E.Write.contents c.args.errors.now) (g.E.Write.contents c.loop-rest.errors) (g.E.Write.contents c.put_front.new.errors) c.args.name.now
    before.0 c.loop-rest.rest.now before.1 before.2 c.in_ok-written.written c.in_ok-written.ensures.ok
