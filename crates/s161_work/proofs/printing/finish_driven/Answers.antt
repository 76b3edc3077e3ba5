use Rattle.std.proofs.Common.{◌≡◌}
use Rattle.std.proofs.lemmas.Result.{IfErr-weaker}
use Rattle.s161_base.proofs.Asking.{IsNoFile, memory_is_none, result_asks}
use Rattle.s161_base.specs.declared.fault.Fault.TheVariants.{Memory}
use Rattle.std.specs.Prelude.{string_bytes}
use Rattle.s161_base.specs.Samples.{image_file}
use Rattle.s161_run.specs.Driven.{IsDriven, driven_files}
use Rattle.s161_work.proofs.Finishing.{of_run}
use Rattle.s161_work.proofs.printing.finish_driven.Goals as goal

pub returns-clause-ok : goal.returns-clause-ok
returns-clause-ok g c =
    let files = g.F.FileSource.known c.args.files.now in
    let ran = c.in_ok-ran.ran in
    let done = c.finish_run.ensures in
    of_run c.args.task.run.shown (IsDriven c.args.task files (image_file files c.args.task.run.image.now)) ran.text.items (string_bytes ran.notes)
    (string_bytes c.finish_run.new.said) ran.stop c.finish_run.result c.in_ok-ran.ensures.ok done.text done.status done.said

-- all files were asked for
pub returns-clause-asks : goal.returns-clause-asks
returns-clause-asks g c =
    result_asks (driven_files c.args.task) (g.F.FileSource.asked c.args.files.now) (g.F.FileSource.asked c.run_driven.new.files) c.finish_run.result c.in_ok-ran.ensures.asks
    (IfErr-weaker c.finish_run.result (λ fault. fault ≡ Memory) IsNoFile memory_is_none c.finish_run.ensures.err)
