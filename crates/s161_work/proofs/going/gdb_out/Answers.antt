use Rattle.std.proofs.lemmas.Result.{err_from_is_err_and}
use Rattle.s161_base.specs.Samples.{image_file}
use Rattle.s161_base.specs.Streams.{streams}
use Rattle.s161_work.proofs.Asking.{gdb_before}
use Rattle.s161_work.proofs.going.gdb_out.Goals as goal

pub returns-in_err-gdb-clause-asks : goal.returns-in_err-gdb-clause-asks
returns-in_err-gdb-clause-asks g c =
    let made = err_from_is_err_and c.from_residual.result c.from_residual.ensures.1 in
    rw (made.1, made.2) c.in_err-gdb.ensures.asks

pub returns-in_err-gdb-clause-before : goal.returns-in_err-gdb-clause-before
returns-in_err-gdb-clause-before g c =
    let made = err_from_is_err_and c.from_residual.result c.from_residual.ensures.1 in
    let files = g.F.FileSource.known c.args.files.now in
    rw (made.1, made.2)
    (gdb_before c.args.task files (image_file files c.args.task.image.now) (streams (g.I.Read.remaining c.args.input.now) (g.I.Read.remaining c.gdb.new.input) (g.O.Write.contents c.args.output.now) (g.O.Write.contents c.gdb.new.output)) c.in_err-gdb.field-0.0 c.in_err-gdb.ensures.fault)
