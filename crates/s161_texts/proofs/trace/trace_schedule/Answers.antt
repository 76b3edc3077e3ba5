use Rattle.std.proofs.Common.{◌≡◌, subst, sym, List, ℕ, IfSome}
use Rattle.std.proofs.lemmas.Result.{err_from_is_err_and}
use Rattle.s161_base.specs.Asked.{image_files}
use Rattle.s161_base.specs.Known.{OfText}
use Rattle.s161_base.specs.Listed.{ListsFor}
use Rattle.s161_base.specs.Samples.{image_file}
use Rattle.s161_base.specs.Streams.{streams}
use Rattle.s161_texts.specs.Traces.{IsTraceFault, MakesSome}
use Rattle.s161_texts.specs.helpers.Scheduled.{MakesAll}
use Rattle.s161_texts.proofs.Asking.{run_asks, run_before}
use Rattle.s161_texts.proofs.Finishing.{ends_so, schedule_bad, schedule_early, schedule_ok}
use Rattle.s161_texts.proofs.trace.trace_schedule.Goals as goal

pub returns-in_err-read-clause-fault : goal.returns-in_err-read-clause-fault
returns-in_err-read-clause-fault g c =
    let made = err_from_is_err_and c.from_residual.result c.from_residual.ensures.1 in
    let files = g.F.FileSource.known c.args.files.now in
    let known = image_file files c.args.task.image.now in
    let input = g.I.Read.remaining c.args.input.now in
    let left = g.I.Read.remaining c.read_scheduled.new.input in
    let a = g.O.Write.contents c.args.output.now in
    let P = IsTraceFault c.args.task files known (streams input left a a) in
    ends_so P c.from_residual.result made.0 made.1
    (subst P (sym made.2) (schedule_early c.args.task files known input left c.requires a c.in_err-read.field-0.0 c.in_err-read.ensures.fault))

pub returns-clause-ok : goal.returns-clause-ok
returns-clause-ok g c =
    let files = g.F.FileSource.known c.args.files.now in
    let known = image_file files c.args.task.image.now in
    let R : List ℕ → Type 0 = λ file. IfSome known (λ bytes. file ≡ bytes) in
    let L : List ℕ → Type 0 = λ file. OfText (g.I.Read.remaining c.args.input.now) (λ text. ListsFor c.args.task.size file text c.in_ok-read.read.1.events c.in_ok-read.read.1.conf) in
    schedule_ok c.args.task files known (g.I.Read.remaining c.args.input.now) (g.I.Read.remaining c.read_scheduled.new.input) c.requires
    (g.O.Write.contents c.args.output.now) (g.O.Write.contents c.run_schedule.new.output) c.deref.result.now
    (subst R (sym c.deref.ensures.value) c.in_ok-read.ensures.file) c.in_ok-read.read.1.conf c.in_ok-read.read.1.events (subst L (sym c.deref.ensures.value) c.in_ok-read.ensures.events) c.run_schedule.result
    c.run_schedule.ensures.ok

pub returns-clause-fault : goal.returns-clause-fault
returns-clause-fault g c =
    let files = g.F.FileSource.known c.args.files.now in
    let known = image_file files c.args.task.image.now in
    let R : List ℕ → Type 0 = λ file. IfSome known (λ bytes. file ≡ bytes) in
    let L : List ℕ → Type 0 = λ file. OfText (g.I.Read.remaining c.args.input.now) (λ text. ListsFor c.args.task.size file text c.in_ok-read.read.1.events c.in_ok-read.read.1.conf) in
    schedule_bad c.args.task files known (g.I.Read.remaining c.args.input.now) (g.I.Read.remaining c.read_scheduled.new.input) c.requires
    (g.O.Write.contents c.args.output.now) (g.O.Write.contents c.run_schedule.new.output) c.deref.result.now
    (subst R (sym c.deref.ensures.value) c.in_ok-read.ensures.file) c.in_ok-read.read.1.conf c.in_ok-read.read.1.events (subst L (sym c.deref.ensures.value) c.in_ok-read.ensures.events) c.run_schedule.result
    c.run_schedule.ensures.err

pub returns-in_err-read-clause-asks : goal.returns-in_err-read-clause-asks
returns-in_err-read-clause-asks g c =
    let made = err_from_is_err_and c.from_residual.result c.from_residual.ensures.1 in
    rw (made.1, made.2) c.in_err-read.ensures.asks

pub returns-in_err-read-clause-unread : goal.returns-in_err-read-clause-unread
returns-in_err-read-clause-unread g c =
    let made = err_from_is_err_and c.from_residual.result c.from_residual.ensures.1 in
    rw (made.1, made.2) c.in_err-read.ensures.unread

pub returns-clause-asks : goal.returns-clause-asks
returns-clause-asks g c =
    let asked = g.F.FileSource.asked in
    let events = c.in_ok-read.read.1.events in
    run_asks c.args.task c.in_ok-read.read.1.conf c.deref.result.now (MakesSome events) (MakesAll events) (g.O.Write.contents c.args.output.now) (g.O.Write.contents c.run_schedule.new.output)
    c.run_schedule.result c.run_schedule.ensures.err (image_files c.args.task.image.now) (asked c.args.files.now) (asked c.read_scheduled.new.files) c.in_ok-read.ensures.asks

pub returns-clause-unread : goal.returns-clause-unread
returns-clause-unread g c =
    let events = c.in_ok-read.read.1.events in
    run_before c.args.task c.in_ok-read.read.1.conf c.deref.result.now (MakesSome events) (MakesAll events) (g.O.Write.contents c.args.output.now) (g.O.Write.contents c.run_schedule.new.output)
    c.run_schedule.result c.run_schedule.ensures.err (g.I.Read.remaining c.args.input.now) (g.I.Read.remaining c.read_scheduled.new.input)
