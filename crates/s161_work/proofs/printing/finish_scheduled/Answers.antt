use Rattle.std.proofs.Common.{◌≡◌}
use Rattle.std.proofs.lemmas.Result.{IfErr-weaker}
use Rattle.s161_base.proofs.Asking.{IsNoFile, memory_is_none, none_before, result_asks}
use Rattle.s161_base.specs.Asked.{IsBeforeInput, image_files}
use Rattle.s161_base.specs.declared.fault.Fault.TheVariants.{Memory}
use Rattle.std.specs.Prelude.{string_bytes}
use Rattle.s161_base.specs.Samples.{image_file}
use Rattle.s161_run.specs.Runs.{IsRun}
use Rattle.s161_work.proofs.Finishing.{of_run}
use Rattle.s161_work.proofs.printing.finish_scheduled.Goals as goal

pub returns-clause-ok : goal.returns-clause-ok
returns-clause-ok g c =
    let files = g.F.FileSource.known c.args.files.now in
    let ran = c.in_ok-ran.ran in
    let done = c.finish_run.ensures in
    of_run c.args.task.shown (IsRun c.args.task (image_file files c.args.task.image.now) (g.I.Read.remaining c.args.input.now)) ran.text.items (string_bytes ran.notes)
    (string_bytes c.finish_run.new.said) ran.stop c.finish_run.result c.in_ok-ran.ensures.ok done.text done.status done.said

-- the file was asked for
pub returns-clause-asks : goal.returns-clause-asks
returns-clause-asks g c =
    result_asks (image_files c.args.task.image.now) (g.F.FileSource.asked c.args.files.now) (g.F.FileSource.asked c.run.new.files) c.finish_run.result c.in_ok-ran.ensures.asks
    (IfErr-weaker c.finish_run.result (λ fault. fault ≡ Memory) IsNoFile memory_is_none c.finish_run.ensures.err)

-- refused memory is no fault of the file
pub returns-clause-unread : goal.returns-clause-unread
returns-clause-unread g c =
    let before = g.I.Read.remaining c.args.input.now in
    let after = g.I.Read.remaining c.run.new.input in
    IfErr-weaker c.finish_run.result (λ fault. fault ≡ Memory) (λ fault. IsBeforeInput fault before after)
    (λ fault is. none_before fault before after (memory_is_none fault is)) c.finish_run.ensures.err
