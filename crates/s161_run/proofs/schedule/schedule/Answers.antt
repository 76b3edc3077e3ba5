use Rattle.std.proofs.Common.{subst, sym}
use Rattle.s161_base.proofs.Asking.{after_all, asks_err, boot_is_none, says_err}
use Rattle.s161_base.specs.declared.fault.Fault.TheVariants.{Memory}
use Rattle.s161_base.specs.Faults.{BootsIn, IsBootFault}
use Rattle.s161_base.specs.Samples.{image_file}
use Rattle.s161_run.specs.Behind.{ChoseBehind}
use Rattle.s161_run.specs.Driven.{rules_of}
use Rattle.s161_run.specs.Schedules.{IsScheduledFault, schedule_files}
use Rattle.s161_run.proofs.Listing.{order_unbooted}
use Rattle.s161_run.proofs.Scheduling.{behind_is_none, order_scheduled, refused_scheduled}
use Rattle.s161_run.proofs.schedule.schedule.Goals as goal

pub returns-clause-ok : goal.returns-clause-ok
returns-clause-ok g c =
    let read = c.in_ok-read.read in
    let file = read.file.items in
    let keys = read.keys.items in
    let first = read.first.events in
    let conf = read.first.conf in
    let options = c.args.task.drive in
    let booted = c.in_ok-core.core.state in
    record {
      file = file;
      keys = keys;
      first = first;
      conf = conf;
      inputs = c.in_ok-read.ensures.ok;
      booted = booted;
      boots =
          subst (λ bytes. BootsIn bytes conf booted) c.deref.ensures.value c.in_ok-core.ensures.ok;
      events = c.deref-3.result.now;
      chose =
          subst (ChoseBehind (rules_of options keys) options.events booted first) (sym c.deref-3.ensures.value)
          (subst (λ bytes. ChoseBehind (rules_of options bytes) options.events booted first c.in_ok-events.events.items) c.deref-2.ensures.value c.in_ok-events.ensures.ok);
      text_is = c.in_ok-text.ensures.text;
      is_read = λ few. c.in_ok-text.ensures.read few;
    }

pub returns-in_err-read-clause-fault : goal.returns-in_err-read-clause-fault
returns-in_err-read-clause-fault g c =
    let files = g.F.FileSource.known c.args.files.now in
    let known = image_file files c.args.task.image.now in
    says_err (IsScheduledFault c.args.task files known) c.from_residual.result c.from_residual.ensures.1
    (order_scheduled c.args.task files known c.in_err-read.field-0.0 c.in_err-read.ensures.fault)

pub returns-in_err-core-clause-fault : goal.returns-in_err-core-clause-fault
returns-in_err-core-clause-fault g c =
    let files = g.F.FileSource.known c.args.files.now in
    let known = image_file files c.args.task.image.now in
    let read = c.in_ok-read.read in
    let inputs = c.in_ok-read.ensures.ok in
    let fault = c.in_err-core.field-0.0 in
    says_err (IsScheduledFault c.args.task files known) c.from_residual-in_err-core.result c.from_residual-in_err-core.ensures.1
    (order_scheduled c.args.task files known fault
    (order_unbooted c.args.task.image c.args.task.size c.args.task.drive files known read.file.items inputs.is_file read.keys.items read.first.events read.first.conf
    c.in_err-core.field-0.0 inputs
    (subst (λ bytes. IsBootFault bytes read.first.conf fault) c.deref.ensures.value c.in_err-core.ensures.fault)))

pub returns-in_err-events-clause-fault : goal.returns-in_err-events-clause-fault
returns-in_err-events-clause-fault g c =
    let files = g.F.FileSource.known c.args.files.now in
    let known = image_file files c.args.task.image.now in
    let read = c.in_ok-read.read in
    let conf = read.first.conf in
    let booted = c.in_ok-core.core.state in
    let boots : BootsIn read.file.items conf booted =
    subst (λ bytes. BootsIn bytes conf booted) c.deref.ensures.value c.in_ok-core.ensures.ok in
    says_err (IsScheduledFault c.args.task files known) c.from_residual-in_err-events.result c.from_residual-in_err-events.ensures.1
    (refused_scheduled c.args.task files known read.file.items read.keys.items read.first.events conf booted c.in_ok-read.ensures.ok boots c.in_err-events.field-0.0
    c.in_err-events.ensures.err)

-- all files were asked for
pub returns-in_err-core-clause-asks : goal.returns-in_err-core-clause-asks
returns-in_err-core-clause-asks g c =
    let asked = g.F.FileSource.asked in
    asks_err c.from_residual-in_err-core.result c.from_residual-in_err-core.ensures.1
    (after_all (schedule_files c.args.task) (asked c.args.files.now) (asked c.read_inputs.new.files) c.in_err-core.field-0.0 c.in_ok-read.ensures.asks
    (boot_is_none c.deref.result.now c.in_ok-read.read.first.conf c.in_err-core.field-0.0 c.in_err-core.ensures.fault))

pub returns-in_err-events-clause-asks : goal.returns-in_err-events-clause-asks
returns-in_err-events-clause-asks g c =
    let asked = g.F.FileSource.asked in
    asks_err c.from_residual-in_err-events.result c.from_residual-in_err-events.ensures.1
    (after_all (schedule_files c.args.task) (asked c.args.files.now) (asked c.read_inputs.new.files) c.in_err-events.field-0.0 c.in_ok-read.ensures.asks
    (behind_is_none c.in_ok-core.core.state c.in_ok-read.read.first.events c.in_err-events.field-0.0 c.in_err-events.ensures.err))

pub returns-in_err-text-clause-asks : goal.returns-in_err-text-clause-asks
returns-in_err-text-clause-asks g c =
    let asked = g.F.FileSource.asked in
    asks_err c.from_residual-in_err-text.result c.from_residual-in_err-text.ensures.1
    (after_all (schedule_files c.args.task) (asked c.args.files.now) (asked c.read_inputs.new.files) Memory c.in_ok-read.ensures.asks tt)
