use Rattle.std.proofs.Common.{refl, ◌≡◌, ◌∙◌, ap, sym, subst, ℕ, List, None, replicate, IfSome}
use Rattle.std.proofs.lemmas.Result.{err_from_is_err_and}
use Rattle.m161_machine.specs.declared.conf.Conf.{Conf}
use Rattle.m161_machine.specs.History.{Start, boot_fault, events_of}
use Rattle.m161_threads.specs.Runs.{Interleaves, bad_call}
use Rattle.s161_base.proofs.Asking.{IsNoFile, after_all, alone_unread, asks_err, boot_is_none, memory_is_none}
use Rattle.s161_base.specs.Asked.{image_files}
use Rattle.s161_base.specs.Faults.{BootsTo}
use Rattle.s161_base.specs.Samples.{image_file}
use Rattle.s161_base.specs.Machines.{conf_asked}
use Rattle.s161_run.specs.declared.events.RunStop.{RunStop}
use Rattle.s161_run.specs.Runs.{shown_log, summary_text, told_traps}
use Rattle.s161_run.specs.Threads.{IsThreadsFault, stop_in_threads}
use Rattle.s161_run.specs.helpers.Threads.{number_of}
use Rattle.s161_run.proofs.Threading.{based, booted_clear, booted_ok, failed_booted}
use Rattle.s161_run.proofs.threaded.run_in_threads.Goals as goal

pub returns-clause-ok : goal.returns-clause-ok
returns-clause-ok g c =
    let known = image_file (g.F.FileSource.known c.args.files.now) c.args.task.run.image.now in
    let R : List ℕ → Type 0 = λ file. IfSome known (λ bytes. file ≡ bytes) in
    let conf = (conf_asked c.args.task.run.size) in
    let file = c.as_slice-image.result.now in
    let booted = c.in_ok-machine.machine in
    let boots = subst (λ conf. BootsTo file conf booted) c.conf_asked.ensures c.in_ok-machine.ensures.ok in
    let is_booted = booted_ok file conf (boot_fault file conf) booted boots in
    let number : number_of booted ≡ conf.processors = ap (λ (x : Conf). x.processors) is_booted.conf_is in
    let report = c.in_ok-report.report in
    let ran = c.in_ok-report.ensures.ok in
    let same : report.machine.start.conf ≡ conf = ap (λ (x : Start). x.conf) ran.interleaves.start_is ∙ is_booted.conf_is in
    let traps = told_traps c.args.task.run.traps report.machine.base (events_of report.machine.log) in
    let ran_all : Interleaves booted (replicate conf.processors c.args.task.quota) report.counts.items report.off report.machine =
    subst (λ (n : ℕ). Interleaves booted (replicate n c.args.task.quota) report.counts.items report.off report.machine) number ran.interleaves in
    record {
      file = file;
      is_file = subst R (sym c.as_slice-image.ensures.value) c.in_ok-file.ensures.whole;
      booted = booted;
      boots = boots;
      begins = subst (λ (n : ℕ). bad_call n n c.args.task.burst ≡ None) number ran.begins;
      made = report.counts.items;
      off = report.off;
      machine = report.machine;
      interleaves = ran_all;
      from_boot = based conf.processors c.args.task.quota conf.log booted report.machine report.counts.items report.off is_booted.state_is
          (ap (λ (x : Conf). x.log) is_booted.conf_is) ran_all c.in_ok-report.ensures.last;
      text_is =
          c.in_ok-done.ensures.text
          ∙ ap (λ (conf : Conf). summary_text traps (shown_log conf file report.machine.base.made report.machine.log) report.machine.state
          (stop_in_threads report.off report.machine.state.conflict) c.args.task.run.shown) same
          ∙ ap (λ (stop : RunStop). summary_text traps (shown_log conf file report.machine.base.made report.machine.log) report.machine.state stop c.args.task.run.shown)
          (sym c.in_ok-done.ensures.stop);
      stop_is = c.in_ok-done.ensures.stop;
      has_none = c.in_ok-done.ensures.notes;
    }

pub returns-in_err-report-clause-fault : goal.returns-in_err-report-clause-fault
returns-in_err-report-clause-fault g c =
    let known = image_file (g.F.FileSource.known c.args.files.now) c.args.task.run.image.now in
    let R : List ℕ → Type 0 = λ file. IfSome known (λ bytes. file ≡ bytes) in
    let conf = (conf_asked c.args.task.run.size) in
    let file = c.as_slice-image.result.now in
    let booted = c.in_ok-machine.machine in
    let failed = err_from_is_err_and c.from_residual-in_err-report.result c.from_residual-in_err-report.ensures.1 in
    let boots = subst (λ conf. BootsTo file conf booted) c.conf_asked.ensures c.in_ok-machine.ensures.ok in
    let is_booted = booted_ok file conf (boot_fault file conf) booted boots in
    let clear : boot_fault file conf ≡ None = booted_clear file conf (boot_fault file conf) booted boots in
    rw (failed.1, failed.2)
    (failed_booted (IsThreadsFault c.args.task known) booted conf.processors c.args.task.burst c.in_err-report.field-0.0 (ap (λ (x : Conf). x.processors) is_booted.conf_is)
    (λ cause why. ((file, subst R (sym c.as_slice-image.ensures.value) c.in_ok-file.ensures.whole, clear), why)) tt c.in_err-report.ensures.fault)

pub returns-in_err-file-clause-asks : goal.returns-in_err-file-clause-asks
returns-in_err-file-clause-asks g c =
    let asked = g.F.FileSource.asked in
    asks_err c.from_residual.result c.from_residual.ensures.1
    (alone_unread c.args.task.run.image (asked c.args.files.now) (asked c.read_image.new.files) c.in_err-file.field-0.0 c.in_err-file.ensures.asks
    c.in_err-file.ensures.err)

-- the file was asked for, and other faults are none of it
pub returns-in_err-machine-clause-asks : goal.returns-in_err-machine-clause-asks
returns-in_err-machine-clause-asks g c =
    let asked = g.F.FileSource.asked in
    asks_err c.from_residual-in_err-machine.result c.from_residual-in_err-machine.ensures.1
    (after_all (image_files c.args.task.run.image.now) (asked c.args.files.now) (asked c.read_image.new.files) c.in_err-machine.field-0.0 c.in_ok-file.ensures.asks
    (boot_is_none c.as_slice-image.result.now c.conf_asked.result c.in_err-machine.field-0.0 c.in_err-machine.ensures.fault))

pub returns-in_err-report-clause-asks : goal.returns-in_err-report-clause-asks
returns-in_err-report-clause-asks g c =
    let asked = g.F.FileSource.asked in
    asks_err c.from_residual-in_err-report.result c.from_residual-in_err-report.ensures.1
    (after_all (image_files c.args.task.run.image.now) (asked c.args.files.now) (asked c.read_image.new.files) c.in_err-report.field-0.0 c.in_ok-file.ensures.asks
    (failed_booted IsNoFile c.in_ok-machine.machine (number_of c.in_ok-machine.machine) c.args.task.burst c.in_err-report.field-0.0 refl (λ cause is. tt) tt c.in_err-report.ensures.fault))

pub returns-in_err-done-clause-asks : goal.returns-in_err-done-clause-asks
returns-in_err-done-clause-asks g c =
    let asked = g.F.FileSource.asked in
    asks_err c.from_residual-in_err-done.result c.from_residual-in_err-done.ensures.1
    (after_all (image_files c.args.task.run.image.now) (asked c.args.files.now) (asked c.read_image.new.files) c.in_err-done.field-0.0 c.in_ok-file.ensures.asks
    (memory_is_none c.in_err-done.field-0.0 c.in_err-done.ensures.err))
