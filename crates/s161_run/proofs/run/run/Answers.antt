use Rattle.std.proofs.Common.{◌≡◌, ◌∙◌, ◌++◌, List, ℕ, IfSome, ap, string_bytes, subst, sym}
use Rattle.std.proofs.lemmas.Result.{err_from_is_err_and}
use Rattle.s161_base.proofs.Asking.{after_all, alone_unread, asks_err, before_input, boot_is_none, input_is_none, none_before, says_err}
use Rattle.s161_base.specs.Asked.{IsBeforeInput, image_files}
use Rattle.s161_base.specs.declared.fault.Fault.TheVariants.{Memory}
use Rattle.circular_buffer.specs.Buffer.{keep_last}
use Rattle.m161_machine.specs.History.{events_of}
use Rattle.m161_machine.specs.State.{State}
use Rattle.s161_base.specs.Faults.{BootsIn}
use Rattle.s161_base.proofs.Listing.{unlisted_is_none}
use Rattle.s161_run.proofs.Listing.{unbooted, unlisted}
use Rattle.s161_base.specs.Known.{IsText}
use Rattle.s161_base.specs.Samples.{image_file}
use Rattle.s161_run.specs.declared.events.RunStop.{RunStop}
use Rattle.s161_run.specs.Runs.{MakesEvents, log_of_run, summary_text, told_traps}
use Rattle.s161_run.proofs.Logging.{kept_fit, run_shown}
use Rattle.s161_run.proofs.Looking.{boots_still}
use Rattle.m161_traps.specs.Shown.{trapping_text, unhandled_text}
use Rattle.s161_run.proofs.run.run.Goals as goal

pub finish_run-requires : goal.finish_run-requires
finish_run-requires g c =
    let made = c.in_ok-made.ensures in
    kept_fit c.in_ok-log.log.capacity made.entries c.in_ok-made.made.log.items c.in_ok-core.core.state c.make_scheduled.new.core.state made.makes.leads made.last_are

pub returns-clause-ok : goal.returns-clause-ok
returns-clause-ok g c =
    let known = g.I.Read.remaining c.args.input.now in
    let P : List ℕ → Type 0 = λ schedule. IfSome known (λ bytes. schedule ≡ bytes) in
    let file_known = image_file (g.F.FileSource.known c.args.files.now) c.args.task.image.now in
    let R : List ℕ → Type 0 = λ file. IfSome file_known (λ bytes. file ≡ bytes) in
    let file = c.as_slice-image.result.now in
    let conf = c.in_ok-run.run'.conf in
    let events = c.in_ok-run.run'.events in
    let booted = c.in_ok-core.core.state in
    let boots : BootsIn file conf booted = c.in_ok-core.ensures.ok in
    let made = c.in_ok-made.ensures in
    let state = c.make_scheduled.new.core.state in
    let stop = c.in_ok-made.made.stop in
    let shown = c.args.task.shown in
    let traps = string_bytes c.in_ok-made.made.traps in
    record {
      file = file;
      is_file = subst R (sym c.as_slice-image.ensures.value) c.in_ok-file.ensures.whole;
      schedule = c.as_str.result.now;
      is_input = subst P (sym c.as_str.ensures.value) c.in_ok-schedule.ensures.whole;
      is_text = subst IsText (sym c.as_str.ensures.value) c.in_ok-schedule.schedule.ok;
      events = events;
      conf = conf;
      lists = c.in_ok-run.ensures.ok;
      booted = booted;
      boots = boots;
      entries = made.entries;
      state = state;
      makes = subst (λ stop. MakesEvents booted events stop made.entries state) (sym c.in_ok-done.ensures.stop) made.makes;
      text_is =
          c.in_ok-done.ensures.text
          ∙ run_shown shown traps conf file made.entries c.in_ok-made.made.log.items booted state stop (ap (λ (s : State). s.made) boots.1.state_is)
          (ap (λ (s : State). s.conf) boots.1.state_is ∙ boots.1.conf_is) made.makes.leads (made.last_are ∙ ap (λ n. keep_last n made.entries) c.in_ok-log.ensures.0)
          ∙ ap (λ lines. summary_text lines (log_of_run conf file made.entries) state stop shown) made.lines_are
          ∙ ap (λ (stop : RunStop). summary_text (told_traps c.args.task.traps booted (events_of made.entries)) (log_of_run conf file made.entries) state stop shown)
          (sym c.in_ok-done.ensures.stop);
      notes_are =
          c.in_ok-done.ensures.notes made.entries made.watched
          ∙ ap (λ found. unhandled_text found ++ trapping_text made.entries)
          (c.in_ok-unhandled.ensures booted stop made.entries (boots_still file conf booted state made.entries boots made.makes.leads) made.makes made.watched);
    }

pub returns-in_err-run-clause-fault : goal.returns-in_err-run-clause-fault
returns-in_err-run-clause-fault g c =
    let known = image_file (g.F.FileSource.known c.args.files.now) c.args.task.image.now in
    let input = g.I.Read.remaining c.args.input.now in
    let P : List ℕ → Type 0 = λ schedule. IfSome input (λ bytes. schedule ≡ bytes) in
    let R : List ℕ → Type 0 = λ file. IfSome known (λ bytes. file ≡ bytes) in
    let made = err_from_is_err_and c.from_residual-in_err-run.result c.from_residual-in_err-run.ensures.1 in
    rw (made.1, made.2)
    (unlisted c.args.task known input c.as_slice-image.result.now c.as_str.result.now
    (subst R (sym c.as_slice-image.ensures.value) c.in_ok-file.ensures.whole)
    (subst P (sym c.as_str.ensures.value) c.in_ok-schedule.ensures.whole)
    (subst IsText (sym c.as_str.ensures.value) c.in_ok-schedule.schedule.ok)
    c.in_err-run.field-0.0 c.in_err-run.ensures.fault)

-- the text lists events, and the boot's answer says the rest
pub returns-in_err-core-clause-fault : goal.returns-in_err-core-clause-fault
returns-in_err-core-clause-fault g c =
    let known = image_file (g.F.FileSource.known c.args.files.now) c.args.task.image.now in
    let input = g.I.Read.remaining c.args.input.now in
    let P : List ℕ → Type 0 = λ schedule. IfSome input (λ bytes. schedule ≡ bytes) in
    let R : List ℕ → Type 0 = λ file. IfSome known (λ bytes. file ≡ bytes) in
    let made = err_from_is_err_and c.from_residual-in_err-core.result c.from_residual-in_err-core.ensures.1 in
    rw (made.1, made.2)
    (unbooted c.args.task known input c.as_slice-image.result.now c.as_str.result.now
    (subst R (sym c.as_slice-image.ensures.value) c.in_ok-file.ensures.whole)
    (subst P (sym c.as_str.ensures.value) c.in_ok-schedule.ensures.whole)
    (subst IsText (sym c.as_str.ensures.value) c.in_ok-schedule.schedule.ok)
    c.in_ok-run.run'.events c.in_ok-run.run'.conf c.in_err-core.field-0.0 c.in_ok-run.ensures.ok c.in_err-core.ensures.fault)

pub returns-in_err-file-clause-asks : goal.returns-in_err-file-clause-asks
returns-in_err-file-clause-asks g c =
    let asked = g.F.FileSource.asked in
    asks_err c.from_residual.result c.from_residual.ensures.1
    (alone_unread c.args.task.image (asked c.args.files.now) (asked c.read_image.new.files) c.in_err-file.field-0.0 c.in_err-file.ensures.asks
    c.in_err-file.ensures.err)

pub returns-in_err-file-clause-unread : goal.returns-in_err-file-clause-unread
returns-in_err-file-clause-unread g c =
    says_err (λ fault. IsBeforeInput fault (g.I.Read.remaining c.args.input.now) (g.I.Read.remaining c.args.input.now)) c.from_residual.result c.from_residual.ensures.1 (before_input c.in_err-file.field-0.0 (g.I.Read.remaining c.args.input.now))

-- the file was asked for, and other faults are none of it
pub returns-in_err-schedule-clause-asks : goal.returns-in_err-schedule-clause-asks
returns-in_err-schedule-clause-asks g c =
    let asked = g.F.FileSource.asked in
    asks_err c.from_residual-in_err-schedule.result c.from_residual-in_err-schedule.ensures.1
    (after_all (image_files c.args.task.image.now) (asked c.args.files.now) (asked c.read_image.new.files) c.in_err-schedule.field-0.0 c.in_ok-file.ensures.asks
    (input_is_none (g.I.Read.remaining c.args.input.now) c.in_err-schedule.field-0.0 c.in_err-schedule.ensures.err))

pub returns-in_err-schedule-clause-unread : goal.returns-in_err-schedule-clause-unread
returns-in_err-schedule-clause-unread g c =
    says_err (λ fault. IsBeforeInput fault (g.I.Read.remaining c.args.input.now) (g.I.Read.remaining c.read_input.new.input)) c.from_residual-in_err-schedule.result c.from_residual-in_err-schedule.ensures.1 (none_before c.in_err-schedule.field-0.0 (g.I.Read.remaining c.args.input.now) (g.I.Read.remaining c.read_input.new.input) (input_is_none (g.I.Read.remaining c.args.input.now) c.in_err-schedule.field-0.0 c.in_err-schedule.ensures.err))

pub returns-in_err-run-clause-asks : goal.returns-in_err-run-clause-asks
returns-in_err-run-clause-asks g c =
    let asked = g.F.FileSource.asked in
    asks_err c.from_residual-in_err-run.result c.from_residual-in_err-run.ensures.1
    (after_all (image_files c.args.task.image.now) (asked c.args.files.now) (asked c.read_image.new.files) c.in_err-run.field-0.0 c.in_ok-file.ensures.asks
    (unlisted_is_none c.args.task.size c.as_slice-image.result.now c.as_str.result.now c.in_err-run.field-0.0 c.in_err-run.ensures.fault))

pub returns-in_err-run-clause-unread : goal.returns-in_err-run-clause-unread
returns-in_err-run-clause-unread g c =
    says_err (λ fault. IsBeforeInput fault (g.I.Read.remaining c.args.input.now) (g.I.Read.remaining c.read_input.new.input)) c.from_residual-in_err-run.result c.from_residual-in_err-run.ensures.1 (none_before c.in_err-run.field-0.0 (g.I.Read.remaining c.args.input.now) (g.I.Read.remaining c.read_input.new.input) (unlisted_is_none c.args.task.size c.as_slice-image.result.now c.as_str.result.now c.in_err-run.field-0.0 c.in_err-run.ensures.fault))

pub returns-in_err-core-clause-asks : goal.returns-in_err-core-clause-asks
returns-in_err-core-clause-asks g c =
    let asked = g.F.FileSource.asked in
    asks_err c.from_residual-in_err-core.result c.from_residual-in_err-core.ensures.1
    (after_all (image_files c.args.task.image.now) (asked c.args.files.now) (asked c.read_image.new.files) c.in_err-core.field-0.0 c.in_ok-file.ensures.asks
    (boot_is_none c.as_slice-image.result.now c.in_ok-run.run'.conf c.in_err-core.field-0.0 c.in_err-core.ensures.fault))

pub returns-in_err-core-clause-unread : goal.returns-in_err-core-clause-unread
returns-in_err-core-clause-unread g c =
    says_err (λ fault. IsBeforeInput fault (g.I.Read.remaining c.args.input.now) (g.I.Read.remaining c.read_input.new.input)) c.from_residual-in_err-core.result c.from_residual-in_err-core.ensures.1 (none_before c.in_err-core.field-0.0 (g.I.Read.remaining c.args.input.now) (g.I.Read.remaining c.read_input.new.input) (boot_is_none c.as_slice-image.result.now c.in_ok-run.run'.conf c.in_err-core.field-0.0 c.in_err-core.ensures.fault))

pub returns-in_err-log-clause-asks : goal.returns-in_err-log-clause-asks
returns-in_err-log-clause-asks g c =
    let asked = g.F.FileSource.asked in
    asks_err c.from_residual-in_err-log.result c.from_residual-in_err-log.ensures.1
    (after_all (image_files c.args.task.image.now) (asked c.args.files.now) (asked c.read_image.new.files) Memory c.in_ok-file.ensures.asks
    tt)

pub returns-in_err-log-clause-unread : goal.returns-in_err-log-clause-unread
returns-in_err-log-clause-unread g c =
    says_err (λ fault. IsBeforeInput fault (g.I.Read.remaining c.args.input.now) (g.I.Read.remaining c.read_input.new.input)) c.from_residual-in_err-log.result c.from_residual-in_err-log.ensures.1 (none_before Memory (g.I.Read.remaining c.args.input.now) (g.I.Read.remaining c.read_input.new.input) tt)

pub returns-in_err-made-clause-asks : goal.returns-in_err-made-clause-asks
returns-in_err-made-clause-asks g c =
    let asked = g.F.FileSource.asked in
    asks_err c.from_residual-in_err-made.result c.from_residual-in_err-made.ensures.1
    (after_all (image_files c.args.task.image.now) (asked c.args.files.now) (asked c.read_image.new.files) Memory c.in_ok-file.ensures.asks
    tt)

pub returns-in_err-made-clause-unread : goal.returns-in_err-made-clause-unread
returns-in_err-made-clause-unread g c =
    says_err (λ fault. IsBeforeInput fault (g.I.Read.remaining c.args.input.now) (g.I.Read.remaining c.read_input.new.input)) c.from_residual-in_err-made.result c.from_residual-in_err-made.ensures.1 (none_before Memory (g.I.Read.remaining c.args.input.now) (g.I.Read.remaining c.read_input.new.input) tt)

pub returns-in_err-done-clause-asks : goal.returns-in_err-done-clause-asks
returns-in_err-done-clause-asks g c =
    let asked = g.F.FileSource.asked in
    asks_err c.from_residual-in_err-done.result c.from_residual-in_err-done.ensures.1
    (after_all (image_files c.args.task.image.now) (asked c.args.files.now) (asked c.read_image.new.files) Memory c.in_ok-file.ensures.asks
    tt)

pub returns-in_err-done-clause-unread : goal.returns-in_err-done-clause-unread
returns-in_err-done-clause-unread g c =
    says_err (λ fault. IsBeforeInput fault (g.I.Read.remaining c.args.input.now) (g.I.Read.remaining c.read_input.new.input)) c.from_residual-in_err-done.result c.from_residual-in_err-done.ensures.1 (none_before Memory (g.I.Read.remaining c.args.input.now) (g.I.Read.remaining c.read_input.new.input) tt)

pub returns-in_err-unhandled-clause-asks : goal.returns-in_err-unhandled-clause-asks
returns-in_err-unhandled-clause-asks g c =
    let asked = g.F.FileSource.asked in
    asks_err c.from_residual-in_err-unhandled.result c.from_residual-in_err-unhandled.ensures.1
    (after_all (image_files c.args.task.image.now) (asked c.args.files.now) (asked c.read_image.new.files) Memory c.in_ok-file.ensures.asks
    tt)

pub returns-in_err-unhandled-clause-unread : goal.returns-in_err-unhandled-clause-unread
returns-in_err-unhandled-clause-unread g c =
    says_err (λ fault. IsBeforeInput fault (g.I.Read.remaining c.args.input.now) (g.I.Read.remaining c.read_input.new.input)) c.from_residual-in_err-unhandled.result c.from_residual-in_err-unhandled.ensures.1 (none_before Memory (g.I.Read.remaining c.args.input.now) (g.I.Read.remaining c.read_input.new.input) tt)
