use Rattle.std.proofs.Common.{◌≡◌, inr, rules, subst, sym}
use Rattle.std.proofs.lemmas.Result.{err_from_is_err_and}
use Rattle.s161_base.proofs.Asking.{IsNoFile, after_all, none_before}
use Rattle.s161_base.specs.Asked.{image_files}
use Rattle.s161_base.specs.Samples.{image_file}
use Rattle.s161_base.specs.Streams.{AppendsSome, streams}
use Rattle.m161_text.specs.Lines.{with_line_end}
use Rattle.s161_run.specs.Runs.{stop_line}
use Rattle.s161_base.specs.declared.fault.Fault.TheVariants.{Memory}
use Rattle.s161_work.proofs.Asking.{console_before}
use Rattle.s161_work.proofs.going.serve.Goals as goal

pub returns-in_err-stop-clause-asks : goal.returns-in_err-stop-clause-asks
returns-in_err-stop-clause-asks g c =
    let made = err_from_is_err_and c.from_residual.result c.from_residual.ensures.1 in
    rw (made.1, made.2) c.in_err-stop.ensures.asks

pub returns-in_err-stop-clause-before : goal.returns-in_err-stop-clause-before
returns-in_err-stop-clause-before g c =
    let made = err_from_is_err_and c.from_residual.result c.from_residual.ensures.1 in
    let known = image_file (g.F.FileSource.known c.args.files.now) c.args.task.image.now in
    rw (made.1, made.2)
    (console_before c.args.task known (streams (g.I.Read.remaining c.args.input.now) (g.I.Read.remaining c.console.new.input) (g.O.Write.contents c.args.output.now) (g.O.Write.contents c.console.new.output)) c.in_err-stop.field-0.0 c.in_err-stop.ensures.fault)

-- the kernel ran, and its file was asked for
pub returns-in_err-line-clause-asks : goal.returns-in_err-line-clause-asks
returns-in_err-line-clause-asks g c =
    let made = err_from_is_err_and c.from_residual-in_err-line.result c.from_residual-in_err-line.ensures.1 in
    rw (made.1, made.2)
    (after_all (image_files c.args.task.image.now) (g.F.FileSource.asked c.args.files.now) (g.F.FileSource.asked c.console.new.files) Memory c.in_ok-stop.ensures.asks tt)

pub returns-in_err-line-clause-before : goal.returns-in_err-line-clause-before
returns-in_err-line-clause-before g c =
    let made = err_from_is_err_and c.from_residual-in_err-line.result c.from_residual-in_err-line.ensures.1 in
    rw (made.1, made.2) tt

pub returns-in_err-send-clause-asks : goal.returns-in_err-send-clause-asks
returns-in_err-send-clause-asks g c =
    let made = err_from_is_err_and c.from_residual-in_err-send.result c.from_residual-in_err-send.ensures.1 in
    rw (made.1, made.2)
    (after_all (image_files c.args.task.image.now) (g.F.FileSource.asked c.args.files.now) (g.F.FileSource.asked c.console.new.files) c.in_err-send.field-0.0 c.in_ok-stop.ensures.asks
    (subst IsNoFile (sym c.in_err-send.ensures.err.0) tt))

pub returns-in_err-send-clause-before : goal.returns-in_err-send-clause-before
returns-in_err-send-clause-before g c =
    let made = err_from_is_err_and c.from_residual-in_err-send.result c.from_residual-in_err-send.ensures.1 in
    rw (made.1, made.2)
    (none_before c.in_err-send.field-0.0 (g.I.Read.remaining c.args.input.now) (g.I.Read.remaining c.console.new.input) (subst IsNoFile (sym c.in_err-send.ensures.err.0) tt))

pub returns-in_err-send-clause-fault : goal.returns-in_err-send-clause-fault
returns-in_err-send-clause-fault g c =
    let made = err_from_is_err_and c.from_residual-in_err-send.result c.from_residual-in_err-send.ensures.1 in
    let line : c.as_bytes.result.now ≡ with_line_end (stop_line c.in_ok-stop.stop) = search rules in
    rw (made.1, made.2)
    (inr (
      c.in_ok-stop.stop,
      c.in_ok-stop.ensures.ok,
      inr (
        c.in_err-send.ensures.err.0,
        subst (AppendsSome (g.E.Write.contents c.args.errors.now) (g.E.Write.contents c.send.new.output)) line c.in_err-send.ensures.err.1,
      ),
    ))
