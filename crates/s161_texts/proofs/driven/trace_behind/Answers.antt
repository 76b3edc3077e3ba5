use Rattle.std.proofs.Common.{ℕ, List, arith, subst}
use Rattle.s161_base.proofs.Listing.{if_err, if_ok}
use Rattle.s161_run.specs.Driven.{rules_of}
use Rattle.s161_run.specs.declared.events.RunStop.{RunStop}
use Rattle.s161_texts.specs.helpers.Driven.{FailsBehind, PrintsBehind}
use Rattle.s161_texts.specs.helpers.Scheduled.{PrintsSchedule}
use Rattle.s161_texts.proofs.Driving.{behind_fails, behind_goes, number_few}
use Rattle.s161_texts.proofs.driven.trace_behind.Goals as goal

pub trace_drive-requires-clause-few : goal.trace_drive-requires-clause-few
trace_drive-requires-clause-few g c =
    let all = c.in_ok-stop.ensures.ok in
    let none = c.requires.first in
    number_few c.args.lines.now c.trace_events.new.lines (g.O.Write.contents c.args.output.now) (g.O.Write.contents c.trace_events.new.output) all.entries
    c.args.machine.now.state c.trace_events.new.machine.state c.requires.step all.prints (omega (arith, none))

pub returns-in-End-clause-ok : goal.returns-in-End-clause-ok
returns-in-End-clause-ok g c =
    let options = c.args.options in
    let s = c.args.machine.now.state in
    let l = c.args.lines.now in
    let a = g.O.Write.contents c.args.output.now in
    let events = c.args.read.now.first.events in
    let u = c.trace_events.new.machine.state in
    let j = c.trace_events.new.lines in
    let b = g.O.Write.contents c.trace_events.new.output in
    let t = c.trace_drive.new.machine.state in
    let k = c.trace_drive.new.lines in
    let d = g.O.Write.contents c.trace_drive.new.output in
    let h = subst (λ (stop : RunStop). PrintsSchedule s l a events stop u j b) c.in-End.is c.in_ok-stop.ensures.ok in
    if_ok c.trace_drive.result (λ stop x.
    let P : List ℕ → Type 0 = λ keys. PrintsBehind (rules_of options keys) options.events s l a events stop t k d in
    subst P c.deref.ensures.value
    (behind_goes (rules_of options c.deref.result.now) options.events s l a events c.requires.first u j b h x.0 stop t k d x.1 x.2))
    c.trace_drive.ensures.ok

pub returns-in-End-clause-err : goal.returns-in-End-clause-err
returns-in-End-clause-err g c =
    let options = c.args.options in
    let s = c.args.machine.now.state in
    let l = c.args.lines.now in
    let a = g.O.Write.contents c.args.output.now in
    let events = c.args.read.now.first.events in
    let u = c.trace_events.new.machine.state in
    let j = c.trace_events.new.lines in
    let b = g.O.Write.contents c.trace_events.new.output in
    let t = c.trace_drive.new.machine.state in
    let d = g.O.Write.contents c.trace_drive.new.output in
    let h = subst (λ (stop : RunStop). PrintsSchedule s l a events stop u j b) c.in-End.is c.in_ok-stop.ensures.ok in
    if_err c.trace_drive.result (λ fault x.
    let P : List ℕ → Type 0 = λ keys. FailsBehind (rules_of options keys) options.events s l a events t d fault in
    subst P c.deref.ensures.value (behind_fails (rules_of options c.deref.result.now) options.events s l a events c.requires.first u j b h t d fault x))
    c.trace_drive.ensures.err
