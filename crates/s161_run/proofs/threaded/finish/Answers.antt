use Rattle.std.proofs.Common.{◌∙◌, ap, subst, sym}
use Rattle.std.specs.Prelude.{Option}
use Rattle.m161_machine.specs.declared.event.Conflict.{Conflict}
use Rattle.m161_machine.specs.History.{events_of}
use Rattle.m161_machine.specs.State.{State}
use Rattle.s161_run.specs.declared.events.RunStop.{RunStop}
use Rattle.s161_run.specs.Runs.{shown_log, summary_text, told_traps}
use Rattle.s161_run.specs.Threads.{stop_in_threads}
use Rattle.s161_run.specs.helpers.Shown.{IsShown}
use Rattle.s161_run.proofs.Logging.{shown_text}
use Rattle.s161_run.proofs.threaded.finish.Goals as goal

pub returns-clause-text : goal.returns-clause-text
returns-clause-text c =
    let m = c.args.report.machine in
    let log = shown_log m.start.conf c.args.file.now m.base.made m.log in
    let shown = c.args.shown in
    let traps = told_traps c.args.traps m.base (events_of m.log) in
    let is = subst (λ text. IsShown shown text log) (sym c.as_bytes-2.ensures.value) c.in_ok-log.ensures in
    c.in_ok-text.ensures
    ∙ ap (λ lines. summary_text lines c.as_bytes-2.result.now c.core.result.now.state c.stop_in_threads-stop.result shown) (c.as_bytes.ensures.value ∙ c.in_ok-traps.ensures)
    ∙ ap (λ (s : State). summary_text traps c.as_bytes-2.result.now s c.stop_in_threads-stop.result shown) c.core.ensures
    ∙ shown_text shown traps c.as_bytes-2.result.now log m.state c.stop_in_threads-stop.result is
    ∙ ap (λ (stop : RunStop). summary_text traps log m.state stop shown) c.stop_in_threads-stop.ensures
    ∙ ap (λ (conflict : Option Conflict). summary_text traps log m.state (stop_in_threads c.args.report.off conflict) shown) c.conflict.ensures
