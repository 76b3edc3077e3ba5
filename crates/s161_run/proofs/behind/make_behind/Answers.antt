use Rattle.std.proofs.Common.{arith, subst}
use Rattle.m161_machine.proofs.Made.{counted}
use Rattle.s161_base.proofs.Listing.{if_ok}
use Rattle.s161_run.specs.Driven.{rules_of}
use Rattle.s161_run.specs.Runs.{MakesEvents}
use Rattle.s161_run.proofs.Following.{goes_on}
use Rattle.s161_run.proofs.behind.make_behind.Goals as goal

pub go_on-requires-clause-made : goal.go_on-requires-clause-made
go_on-requires-clause-made g c =
    let made = c.in_ok-stop.ensures in
    let makes = subst (λ stop. MakesEvents c.args.core.now.state c.args.first.now stop made.0 c.make_events.new.core.state) c.in-End.is made.1 in
    let count = counted made.0 c.args.core.now.state c.make_events.new.core.state makes.leads in
    let all = makes.why.1 in
    let long = c.len.ensures in
    omega (arith, count, all, long)

pub returns-in-End : goal.returns-in-End
returns-in-End g c =
    let made = c.in_ok-stop.ensures in
    let s = c.args.core.now.state in
    let u = c.make_events.new.core.state in
    let first = c.args.first.now in
    let makes = subst (λ stop. MakesEvents s first stop made.0 u) c.in-End.is made.1 in
    if_ok c.go_on.result
    (goes_on g.N.Notes.has (rules_of c.args.options c.args.keys.now) c.args.n c.len.result s u c.go_on.new.core.state first made.0 c.args.notes.now c.make_events.new.notes c.go_on.new.notes
    makes c.len.ensures made.2)
    c.go_on.ensures
