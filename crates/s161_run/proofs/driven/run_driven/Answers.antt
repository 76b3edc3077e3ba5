use Rattle.std.proofs.Common.{◌≡◌, ◌∙◌, ◌++◌, ap, string_bytes, subst, sym}
use Rattle.circular_buffer.specs.Buffer.{keep_last}
use Rattle.m161_machine.specs.History.{events_of}
use Rattle.m161_machine.specs.State.{State}
use Rattle.s161_base.proofs.Asking.{after_all, asks_err, boot_is_none, says_err}
use Rattle.s161_base.specs.declared.fault.Fault.TheVariants.{Memory}
use Rattle.s161_base.specs.Faults.{BootsIn, IsBootFault}
use Rattle.s161_base.specs.Samples.{image_file}
use Rattle.s161_run.specs.declared.events.RunStop.{RunStop}
use Rattle.s161_run.specs.Behind.{GoesBehind}
use Rattle.s161_run.specs.Driven.{IsDrivenFault, driven_files, rules_of}
use Rattle.s161_run.specs.Runs.{log_of_run, summary_text, told_traps}
use Rattle.s161_run.proofs.Following.{behind_leads}
use Rattle.s161_run.proofs.Listing.{order_unbooted}
use Rattle.s161_run.proofs.Logging.{kept_fit, run_shown}
use Rattle.m161_elf.specs.Span.{spans}
use Rattle.m161_traps.specs.Shown.{trapping_text, unhandled_text}
use Rattle.m161_traps.specs.Unhandled.{first_unhandled}
use Rattle.s161_run.proofs.Looking.{boots_still}
use Rattle.s161_run.proofs.driven.run_driven.Goals as goal

pub finish_run-requires : goal.finish_run-requires
finish_run-requires g c =
    let made = c.in_ok-made.ensures in
    kept_fit c.in_ok-log.log.capacity made.entries c.in_ok-made.made.log.items c.in_ok-core.core.state c.make_chosen.new.core.state (behind_leads made.goes) made.last_are

pub returns-clause-ok : goal.returns-clause-ok
returns-clause-ok g c =
    let read = c.in_ok-read.read in
    let file = read.file.items in
    let keys = read.keys.items in
    let first = read.first.events in
    let conf = read.first.conf in
    let task = c.args.task in
    let shown = task.run.shown in
    let booted = c.in_ok-core.core.state in
    let boots : BootsIn file conf booted =
    subst (λ bytes. BootsIn bytes conf booted) c.deref.ensures.value c.in_ok-core.ensures.ok in
    let made = c.in_ok-made.ensures in
    let state = c.make_chosen.new.core.state in
    let stop = c.in_ok-made.made.stop in
    let traps = string_bytes c.in_ok-made.made.traps in
    let log = log_of_run conf file made.entries in
    let leads = behind_leads made.goes in
    let unhandled : c.in_ok-unhandled.unhandled ≡ first_unhandled (spans file) booted (events_of made.entries) =
    c.in_ok-unhandled.ensures booted stop made.entries
    (subst (λ bytes. BootsIn bytes state.conf booted) (sym c.deref-3.ensures.value) (boots_still file conf booted state made.entries boots leads))
    (subst (λ bytes. GoesBehind (rules_of task.drive bytes) task.drive.events booted first stop made.entries state) (c.deref-2.ensures.value ∙ sym c.deref-4.ensures.value) made.goes)
    made.watched
    ∙ ap (λ bytes. first_unhandled (spans bytes) booted (events_of made.entries)) c.deref-3.ensures.value in
    record {
      file = file;
      keys = keys;
      first = first;
      conf = conf;
      inputs = c.in_ok-read.ensures.ok;
      booted = booted;
      boots = boots;
      entries = made.entries;
      state = state;
      goes =
          subst (λ (stop : RunStop). GoesBehind (rules_of task.drive keys) task.drive.events booted first stop made.entries state) (sym c.in_ok-done.ensures.stop)
          (subst (λ bytes. GoesBehind (rules_of task.drive bytes) task.drive.events booted first stop made.entries state) c.deref-2.ensures.value made.goes);
      text_is =
          c.in_ok-done.ensures.text
          ∙ run_shown shown traps conf c.deref-5.result.now made.entries c.in_ok-made.made.log.items booted state stop (ap (λ (s : State). s.made) boots.1.state_is)
          (ap (λ (s : State). s.conf) boots.1.state_is ∙ boots.1.conf_is) leads (made.last_are ∙ ap (λ n. keep_last n made.entries) c.in_ok-log.ensures.0)
          ∙ ap (λ bytes. summary_text traps (log_of_run conf bytes made.entries) state stop shown) c.deref-5.ensures.value
          ∙ ap (λ lines. summary_text lines log state stop shown) made.lines_are
          ∙ ap (λ (stop : RunStop). summary_text (told_traps task.run.traps booted (events_of made.entries)) log state stop shown) (sym c.in_ok-done.ensures.stop);
      notes_are =
          c.in_ok-done.ensures.notes made.entries made.watched
          ∙ ap (λ found. unhandled_text found ++ trapping_text made.entries) unhandled;
    }

pub returns-in_err-core-clause-fault : goal.returns-in_err-core-clause-fault
returns-in_err-core-clause-fault g c =
    let files = g.F.FileSource.known c.args.files.now in
    let known = image_file files c.args.task.run.image.now in
    let read = c.in_ok-read.read in
    let inputs = c.in_ok-read.ensures.ok in
    says_err (IsDrivenFault c.args.task files known) c.from_residual-in_err-core.result c.from_residual-in_err-core.ensures.1
    (order_unbooted c.args.task.run.image c.args.task.run.size c.args.task.drive files known read.file.items inputs.is_file read.keys.items read.first.events read.first.conf
    c.in_err-core.field-0.0 inputs
    (subst (λ bytes. IsBootFault bytes read.first.conf c.in_err-core.field-0.0) c.deref.ensures.value c.in_err-core.ensures.fault))

-- all files were asked for
pub returns-in_err-core-clause-asks : goal.returns-in_err-core-clause-asks
returns-in_err-core-clause-asks g c =
    let asked = g.F.FileSource.asked in
    asks_err c.from_residual-in_err-core.result c.from_residual-in_err-core.ensures.1
    (after_all (driven_files c.args.task) (asked c.args.files.now) (asked c.read_inputs.new.files) c.in_err-core.field-0.0 c.in_ok-read.ensures.asks
    (boot_is_none c.deref.result.now c.in_ok-read.read.first.conf c.in_err-core.field-0.0 c.in_err-core.ensures.fault))

pub returns-in_err-log-clause-asks : goal.returns-in_err-log-clause-asks
returns-in_err-log-clause-asks g c =
    let asked = g.F.FileSource.asked in
    asks_err c.from_residual-in_err-log.result c.from_residual-in_err-log.ensures.1
    (after_all (driven_files c.args.task) (asked c.args.files.now) (asked c.read_inputs.new.files) Memory c.in_ok-read.ensures.asks tt)

pub returns-in_err-made-clause-asks : goal.returns-in_err-made-clause-asks
returns-in_err-made-clause-asks g c =
    let asked = g.F.FileSource.asked in
    asks_err c.from_residual-in_err-made.result c.from_residual-in_err-made.ensures.1
    (after_all (driven_files c.args.task) (asked c.args.files.now) (asked c.read_inputs.new.files) Memory c.in_ok-read.ensures.asks tt)

pub returns-in_err-done-clause-asks : goal.returns-in_err-done-clause-asks
returns-in_err-done-clause-asks g c =
    let asked = g.F.FileSource.asked in
    asks_err c.from_residual-in_err-done.result c.from_residual-in_err-done.ensures.1
    (after_all (driven_files c.args.task) (asked c.args.files.now) (asked c.read_inputs.new.files) Memory c.in_ok-read.ensures.asks tt)

pub returns-in_err-unhandled-clause-asks : goal.returns-in_err-unhandled-clause-asks
returns-in_err-unhandled-clause-asks g c =
    let asked = g.F.FileSource.asked in
    asks_err c.from_residual-in_err-unhandled.result c.from_residual-in_err-unhandled.ensures.1
    (after_all (driven_files c.args.task) (asked c.args.files.now) (asked c.read_inputs.new.files) Memory c.in_ok-read.ensures.asks tt)
