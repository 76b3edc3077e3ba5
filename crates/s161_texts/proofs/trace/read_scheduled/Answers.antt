use Rattle.std.proofs.Common.{◌≡◌, List, ℕ, IfSome, subst, sym}
use Rattle.std.proofs.lemmas.Result.{err_from_is_err_and}
use Rattle.s161_base.proofs.Asking.{alone_unread, before_input, after_all, input_is_none, none_before}
use Rattle.s161_base.proofs.Listing.{unlisted_is_none}
use Rattle.s161_run.proofs.Listing.{unlisted}
use Rattle.s161_base.specs.Asked.{image_files}
use Rattle.s161_base.specs.Known.{IsText}
use Rattle.s161_base.specs.Listed.{ListsFor}
use Rattle.s161_base.specs.Samples.{image_file}
use Rattle.s161_texts.specs.Traces.{run_of}
use Rattle.s161_texts.proofs.trace.read_scheduled.Goals as goal

pub returns-in_err-run-clause-fault : goal.returns-in_err-run-clause-fault
returns-in_err-run-clause-fault g c =
    let known = image_file (g.F.FileSource.known c.args.files.now) c.args.task.image.now in
    let input = g.I.Read.remaining c.args.input.now in
    let P : List ℕ → Type 0 = λ schedule. IfSome input (λ bytes. schedule ≡ bytes) in
    let R : List ℕ → Type 0 = λ file. IfSome known (λ bytes. file ≡ bytes) in
    let made = err_from_is_err_and c.from_residual-in_err-run.result c.from_residual-in_err-run.ensures.1 in
    rw (made.1, made.2)
    (unlisted (run_of c.args.task) known input c.deref.result.now c.as_str.result.now
    (subst R (sym c.deref.ensures.value) c.in_ok-file.ensures.whole)
    (subst P (sym c.as_str.ensures.value) c.in_ok-schedule.ensures.whole)
    (subst IsText (sym c.as_str.ensures.value) c.in_ok-schedule.schedule.ok)
    c.in_err-run.field-0.0 c.in_err-run.ensures.fault)

pub returns-clause-events : goal.returns-clause-events
returns-clause-events g c =
    let input = g.I.Read.remaining c.args.input.now in
    let P : List ℕ → Type 0 = λ schedule. IfSome input (λ bytes. schedule ≡ bytes) in
    let L : List ℕ → Type 0 = λ file. ListsFor c.args.task.size file c.as_str.result.now c.in_ok-run.run'.events c.in_ok-run.run'.conf in (
      c.as_str.result.now,
      subst P (sym c.as_str.ensures.value) c.in_ok-schedule.ensures.whole,
      (subst IsText (sym c.as_str.ensures.value) c.in_ok-schedule.schedule.ok, subst L c.deref.ensures.value c.in_ok-run.ensures.ok),
    )

pub returns-in_err-file-clause-asks : goal.returns-in_err-file-clause-asks
returns-in_err-file-clause-asks g c =
    let asked = g.F.FileSource.asked in
    let made = err_from_is_err_and c.from_residual.result c.from_residual.ensures.1 in
    rw (made.1, made.2)
    (alone_unread c.args.task.image (asked c.args.files.now) (asked c.read_image.new.files) c.in_err-file.field-0.0 c.in_err-file.ensures.asks
    c.in_err-file.ensures.err)

pub returns-in_err-file-clause-unread : goal.returns-in_err-file-clause-unread
returns-in_err-file-clause-unread g c =
    let made = err_from_is_err_and c.from_residual.result c.from_residual.ensures.1 in
    rw (made.1, made.2) (before_input c.in_err-file.field-0.0 (g.I.Read.remaining c.args.input.now))

-- the file was asked for, and other faults are none of it
pub returns-in_err-schedule-clause-asks : goal.returns-in_err-schedule-clause-asks
returns-in_err-schedule-clause-asks g c =
    let asked = g.F.FileSource.asked in
    let made = err_from_is_err_and c.from_residual-in_err-schedule.result c.from_residual-in_err-schedule.ensures.1 in
    rw (made.1, made.2)
    (after_all (image_files c.args.task.image.now) (asked c.args.files.now) (asked c.read_image.new.files) c.in_err-schedule.field-0.0 c.in_ok-file.ensures.asks
    (input_is_none (g.I.Read.remaining c.args.input.now) c.in_err-schedule.field-0.0 c.in_err-schedule.ensures.err))

pub returns-in_err-schedule-clause-unread : goal.returns-in_err-schedule-clause-unread
returns-in_err-schedule-clause-unread g c =
    let made = err_from_is_err_and c.from_residual-in_err-schedule.result c.from_residual-in_err-schedule.ensures.1 in
    rw (made.1, made.2)
    (none_before c.in_err-schedule.field-0.0 (g.I.Read.remaining c.args.input.now) (g.I.Read.remaining c.read_input.new.input)
    (input_is_none (g.I.Read.remaining c.args.input.now) c.in_err-schedule.field-0.0 c.in_err-schedule.ensures.err))

pub returns-in_err-run-clause-asks : goal.returns-in_err-run-clause-asks
returns-in_err-run-clause-asks g c =
    let asked = g.F.FileSource.asked in
    let made = err_from_is_err_and c.from_residual-in_err-run.result c.from_residual-in_err-run.ensures.1 in
    rw (made.1, made.2)
    (after_all (image_files c.args.task.image.now) (asked c.args.files.now) (asked c.read_image.new.files) c.in_err-run.field-0.0 c.in_ok-file.ensures.asks
    (unlisted_is_none c.args.task.size c.deref.result.now c.as_str.result.now c.in_err-run.field-0.0 c.in_err-run.ensures.fault))

pub returns-in_err-run-clause-unread : goal.returns-in_err-run-clause-unread
returns-in_err-run-clause-unread g c =
    let made = err_from_is_err_and c.from_residual-in_err-run.result c.from_residual-in_err-run.ensures.1 in
    rw (made.1, made.2)
    (none_before c.in_err-run.field-0.0 (g.I.Read.remaining c.args.input.now) (g.I.Read.remaining c.read_input.new.input)
    (unlisted_is_none c.args.task.size c.deref.result.now c.as_str.result.now c.in_err-run.field-0.0 c.in_err-run.ensures.fault))
