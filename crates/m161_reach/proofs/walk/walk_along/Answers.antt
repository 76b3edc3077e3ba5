use Rattle.std.proofs.Common.{◌≡◌, ◌+◌, ◌∙◌, arith, get_or, length, refl, subst, sym, take}
use Rattle.m161_reach.specs.helpers.Walk.{Goes, GoesOnBelow, LeadsTo}
use Rattle.m161_reach.proofs.Walking.{goes_more, leads_all, leads_met, leads_more, leads_not, over_so}
use Rattle.m161_reach.proofs.walk.walk_along.Goals as goal

pub returns-then-is_over : goal.returns-then-is_over
returns-then-is_over g c =
    let i = c.loop-event.event-index in
    over_so c.args.machines.now c.args.events.now i c.loop-event.place (omega arith) c.loop-event.invariant.leads (sym c.is_over.ensures ∙ c.if-is_over.true)

pub go-requires : goal.go-requires
go-requires g c =
    leads_met c.args.machines.now (take c.loop-event.event-index c.args.events.now) c.loop-event.place c.loop-event.invariant.leads

pub returns-then-not-branch : goal.returns-then-not-branch
returns-then-not-branch g c =
    let q = c.args.machines.now in
    let es = c.args.events.now in
    let i = c.loop-event.event-index in
    let t = c.loop-event.place in
    let e = get_or es i 0 in
    leads_not q es i e t c.go.new.place c.loop-event-test.true refl c.loop-event.invariant.leads
    (subst (Goes q t e c.go.new.place) c.if-not-branch.true c.in_ok-go.ensures)

pub loop-event-preserved : goal.loop-event-preserved
loop-event-preserved g c =
    let q = c.args.machines.now in
    let es = c.args.events.now in
    let i = c.loop-event.event-index in
    let t = c.loop-event.place in
    let e = get_or es i 0 in
    record {
      leads = leads_more q es i e t c.go.new.place c.loop-event-test.true refl c.loop-event.invariant.leads
          (subst (Goes q t e c.go.new.place) c.if-not-branch.false c.in_ok-go.ensures);
      goes_on = goes_more q es i t c.loop-event.invariant.goes_on c.loop-event.invariant.leads (sym c.is_over.ensures ∙ c.if-is_over.false);
    }

pub returns-then-is_over-2 : goal.returns-then-is_over-2
returns-then-is_over-2 g c =
    let i = c.loop-event.event-index in
    over_so c.args.machines.now c.args.events.now i c.loop-event.place (omega arith) c.loop-event.invariant.leads (sym c.is_over-2.ensures ∙ c.if-is_over-2.true)

pub returns : goal.returns
returns g c =
    let q = c.args.machines.now in
    let es = c.args.events.now in
    let i = c.loop-event.event-index in
    let t = c.loop-event.place in
    let all : i ≡ length es = omega arith in
    let goes = goes_more q es i t c.loop-event.invariant.goes_on c.loop-event.invariant.leads (sym c.is_over-2.ensures ∙ c.if-is_over-2.false) in
    (leads_all q es t (subst (λ n. LeadsTo q (take n es) t) all c.loop-event.invariant.leads), subst (λ n. GoesOnBelow q es (n + 1)) all goes)
