use Rattle.std.proofs.Common.{◌<◌, arith, length}
use Rattle.s161_base.proofs.Putting.{front_failed, next_failed}
use Rattle.s161_base.proofs.pieces.put_front.Goals as goal

pub returns-in_err-send-clause-err : goal.returns-in_err-send-clause-err
returns-in_err-send-clause-err g c =
    front_failed c.plain_front-plain.result c.args.name.now c.in_err-send.field-0.0 c.plain_front-plain.ensures.plain (g.E.Write.contents c.args.errors.now)
    (g.E.Write.contents c.send.new.output) c.from_residual.result c.in_err-send.ensures.err c.from_residual.ensures.1

pub returns-in_err-put_shown-clause-err : goal.returns-in_err-put_shown-clause-err
returns-in_err-put_shown-clause-err g c =
    let n = c.plain_front-plain.result in
    let within : n < length c.args.name.now = omega arith in
    next_failed n c.args.name.now c.in_err-put_shown.field-0.0 c.plain_front-plain.ensures.plain (g.E.Write.contents c.args.errors.now)
    (g.E.Write.contents c.send.new.output) (g.E.Write.contents c.put_shown.new.errors) c.from_residual-in_err-put_shown.result within c.in_ok-send.ensures.ok
    c.in_err-put_shown.ensures c.from_residual-in_err-put_shown.ensures.1
