use Rattle.std.proofs.lemmas.Result.{err_from_is_err_and}
use Rattle.s161_base.specs.Samples.{image_file}
use Rattle.s161_base.specs.Streams.{streams}
use Rattle.s161_work.proofs.Asking.{debug_before}
use Rattle.s161_work.proofs.going.debug_out.Goals as goal

pub returns-in_err-debug-clause-asks : goal.returns-in_err-debug-clause-asks
returns-in_err-debug-clause-asks g c =
    let made = err_from_is_err_and c.from_residual.result c.from_residual.ensures.1 in
    rw (made.1, made.2) c.in_err-debug.ensures.asks

pub returns-in_err-debug-clause-before : goal.returns-in_err-debug-clause-before
returns-in_err-debug-clause-before g c =
    let made = err_from_is_err_and c.from_residual.result c.from_residual.ensures.1 in
    let files = g.F.FileSource.known c.args.files.now in
    rw (made.1, made.2)
    (debug_before c.args.task files (image_file files c.args.task.image.now) (streams (g.I.Read.remaining c.args.input.now) (g.I.Read.remaining c.debug.new.input) (g.O.Write.contents c.args.output.now) (g.O.Write.contents c.debug.new.output)) (g.E.Write.contents c.args.errors.now) (g.E.Write.contents c.debug.new.errors) c.in_err-debug.field-0.0 c.in_err-debug.ensures.fault)
