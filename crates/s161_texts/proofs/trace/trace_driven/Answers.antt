use Rattle.std.proofs.Common.{subst, sym, List, ℕ, Option}
use Rattle.std.proofs.lemmas.Result.{err_from_is_err_and}
use Rattle.s161_base.specs.declared.fault.Fault.{Fault}
use Rattle.s161_base.specs.Samples.{image_file}
use Rattle.s161_base.specs.Streams.{streams}
use Rattle.s161_run.specs.Driven.{order_files, rules_of}
use Rattle.s161_texts.specs.Traces.{GoesSome, IsTraceFault}
use Rattle.s161_texts.specs.helpers.Driven.{GoesAll}
use Rattle.s161_texts.proofs.Asking.{run_asks}
use Rattle.s161_texts.proofs.Finishing.{drive_bad, drive_early, drive_ok, ends_so}
use Rattle.s161_texts.proofs.trace.trace_driven.Goals as goal

pub returns-in_err-read-clause-fault : goal.returns-in_err-read-clause-fault
returns-in_err-read-clause-fault g c =
    let made = err_from_is_err_and c.from_residual.result c.from_residual.ensures.1 in
    let files = g.F.FileSource.known c.args.files.now in
    let known = image_file files c.args.task.image.now in
    let a = g.O.Write.contents c.args.output.now in
    let P : Fault → Type 0 = λ fault. (input : Option (List ℕ)) → IsTraceFault c.args.task files known (streams input input a a) fault in
    ends_so P c.from_residual.result made.0 made.1
    (subst P (sym made.2)
    (λ input. drive_early c.args.task c.args.options files known c.requires.drive input a c.in_err-read.field-0.0 c.in_err-read.ensures.fault))

pub returns-clause-ok : goal.returns-clause-ok
returns-clause-ok g c =
    let files = g.F.FileSource.known c.args.files.now in
    let known = image_file files c.args.task.image.now in
    let read = c.in_ok-read.read in
    drive_ok c.args.task c.args.options files known c.requires.drive (g.O.Write.contents c.args.output.now) (g.O.Write.contents c.run_drive.new.output)
    read.file.items read.keys.items read.first.events read.first.conf c.in_ok-read.ensures.ok c.run_drive.result c.run_drive.ensures.ok

pub returns-clause-fault : goal.returns-clause-fault
returns-clause-fault g c =
    let files = g.F.FileSource.known c.args.files.now in
    let known = image_file files c.args.task.image.now in
    let read = c.in_ok-read.read in
    drive_bad c.args.task c.args.options files known c.requires.drive (g.O.Write.contents c.args.output.now) (g.O.Write.contents c.run_drive.new.output)
    read.file.items read.keys.items read.first.events read.first.conf c.in_ok-read.ensures.ok c.run_drive.result c.run_drive.ensures.err

pub returns-in_err-read-clause-asks : goal.returns-in_err-read-clause-asks
returns-in_err-read-clause-asks g c =
    let made = err_from_is_err_and c.from_residual.result c.from_residual.ensures.1 in
    rw (made.1, made.2) c.in_err-read.ensures.asks

pub returns-clause-asks : goal.returns-clause-asks
returns-clause-asks g c =
    let asked = g.F.FileSource.asked in
    let options = c.args.options in
    let read = c.in_ok-read.read in
    let rules = rules_of options read.keys.items in
    let first = read.first.events in
    run_asks c.args.task read.first.conf read.file.items (GoesSome rules options.events first) (GoesAll rules options.events first) (g.O.Write.contents c.args.output.now)
    (g.O.Write.contents c.run_drive.new.output) c.run_drive.result c.run_drive.ensures.err (order_files c.args.task.image.now options)
    (asked c.args.files.now) (asked c.read_inputs.new.files) c.in_ok-read.ensures.asks
