use Rattle.std.proofs.Common.{inl, inr, refl, subst, List}
use Rattle.std.proofs.lemmas.Result.{err_from_is_err_and}
use Rattle.m161_machine.specs.declared.event.Event.{Event}
use Rattle.m161_debug.specs.Breakpoints.{SessionState}
use Rattle.s161_base.specs.Streams.{streams}
use Rattle.s161_base.proofs.Listing.{if_err}
use Rattle.s161_debug.specs.Debugs.{debug_files}
use Rattle.s161_debug.specs.Sessions.{Breaks, Ends}
use Rattle.s161_debug.proofs.Asking.{session_asks}
use Rattle.s161_debug.proofs.Results.{on_ok}
use Rattle.s161_debug.proofs.debug.debug.Goals as goal

pub returns-in_err-opened-clause-fault : goal.returns-in_err-opened-clause-fault
returns-in_err-opened-clause-fault g c =
    let made = err_from_is_err_and c.from_residual.result c.from_residual.ensures.1 in
    rw (made.1, made.2) (inl (c.in_err-opened.ensures.fault, (refl, refl), refl))

pub returns-clause-ok : goal.returns-clause-ok
returns-clause-ok g c =
    let opened = c.in_ok-opened.opened in
    let x = streams (g.I.Read.remaining c.args.input.now) (g.I.Read.remaining c.serve.new.input) (g.O.Write.contents c.args.output.now) (g.O.Write.contents c.serve.new.output) in
    let errors = g.E.Write.contents c.args.errors.now in
    let told = g.E.Write.contents c.serve.new.errors in
    let S : SessionState → Type 0 = λ s. Ends s opened.events.items x errors told in
    let L : List Event → Type 0 = λ left. Ends c.new-session.result left x errors told in
    on_ok c.serve.result (λ ends. record {
      booted = opened.machine;
      events = opened.events.items;
      style = opened.style;
      opens = c.in_ok-opened.ensures.ok;
      ends = subst S c.new-session.ensures (subst L c.new-left.ensures ends);
    }) c.serve.ensures.ok

pub returns-clause-fault : goal.returns-clause-fault
returns-clause-fault g c =
    let opened = c.in_ok-opened.opened in
    let x = streams (g.I.Read.remaining c.args.input.now) (g.I.Read.remaining c.serve.new.input) (g.O.Write.contents c.args.output.now) (g.O.Write.contents c.serve.new.output) in
    let errors = g.E.Write.contents c.args.errors.now in
    let told = g.E.Write.contents c.serve.new.errors in
    if_err c.serve.result (λ fault breaks.
    let S : SessionState → Type 0 = λ s. Breaks s opened.events.items x errors told fault in
    let L : List Event → Type 0 = λ left. Breaks c.new-session.result left x errors told fault in
    inr (opened.machine, opened.events.items, opened.style, c.in_ok-opened.ensures.ok, subst S c.new-session.ensures (subst L c.new-left.ensures breaks)))
    c.serve.ensures.err

pub returns-in_err-opened-clause-asks : goal.returns-in_err-opened-clause-asks
returns-in_err-opened-clause-asks g c =
    let made = err_from_is_err_and c.from_residual.result c.from_residual.ensures.1 in
    rw (made.1, made.2) c.in_err-opened.ensures.asks

pub returns-clause-asks : goal.returns-clause-asks
returns-clause-asks g c =
    let asked = g.F.FileSource.asked in
    let x = streams (g.I.Read.remaining c.args.input.now) (g.I.Read.remaining c.serve.new.input) (g.O.Write.contents c.args.output.now) (g.O.Write.contents c.serve.new.output) in
    session_asks c.new-session.result c.new-left.result x (g.E.Write.contents c.args.errors.now) (g.E.Write.contents c.serve.new.errors) c.serve.result c.serve.ensures.err (debug_files c.args.task) (asked c.args.files.now) (asked c.open.new.files)
    c.in_ok-opened.ensures.asks
