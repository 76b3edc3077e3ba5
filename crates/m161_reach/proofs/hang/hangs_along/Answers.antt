use Rattle.std.proofs.Common.{inl, inr}
use Rattle.m161_reach.specs.From.{asked_of}
use Rattle.m161_reach.specs.declared.walk.Walk.TheVariants as walks
use Rattle.m161_reach.proofs.Walking.{goes_along, hangs_here, leads_origin, walks_at}
use Rattle.m161_reach.proofs.hang.hangs_along.Goals as goal

pub returns-in-Refused : goal.returns-in-Refused
returns-in-Refused g c =
    let q = asked_of c.args.boot.now.state c.args.goal.now in
    inl (walks_at q c.untimed-machines.result c.args.events.now c.walk_along.new.place c.in_ok-walk_along.field-0 walks.Refused c.untimed-machines.ensures
    c.in-Refused.is c.in_ok-walk_along.ensures)

pub returns-in-Over : goal.returns-in-Over
returns-in-Over g c =
    let q = asked_of c.args.boot.now.state c.args.goal.now in
    inr (walks_at q c.untimed-machines.result c.args.events.now c.walk_along.new.place c.in_ok-walk_along.field-0 walks.Over c.untimed-machines.ensures
    c.in-Over.is c.in_ok-walk_along.ensures)

pub hangs_from-requires-clause-from : goal.hangs_from-requires-clause-from
hangs_from-requires-clause-from g c =
    let q = asked_of c.args.boot.now.state c.args.goal.now in
    let t = c.walk_along.new.place in
    let walked = walks_at q c.untimed-machines.result c.args.events.now t c.in_ok-walk_along.field-0 walks.Went c.untimed-machines.ensures c.in-Went.is
    c.in_ok-walk_along.ensures in
    leads_origin q c.args.events.now t walked.0

pub returns : goal.returns
returns g c =
    let q = asked_of c.args.boot.now.state c.args.goal.now in
    let t = c.walk_along.new.place in
    let es = c.args.events.now in
    let walked = walks_at q c.untimed-machines.result es t c.in_ok-walk_along.field-0 walks.Went c.untimed-machines.ensures c.in-Went.is
    c.in_ok-walk_along.ensures in
    (goes_along q es t walked.0 walked.1, hangs_here q c.args.limit es t c.in_ok-hangs_from-in-Went.field-0 walked.0 c.in_ok-hangs_from-in-Went.ensures)
