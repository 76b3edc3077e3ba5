use Rattle.std.proofs.Common.{◌≡◌, ◌+◌, ◌-◌, length, refl, subst, arith}
use Rattle.std.specs.Prelude.{IfSome, slice_get}
use Rattle.m161_order.specs.Delays.{delays_of}
use Rattle.m161_places.specs.Going.{PassesNoting}
use Rattle.s161_search.specs.Runs.{most_of}
use Rattle.s161_search.specs.helpers.Inputs.{given_of}
use Rattle.s161_search.specs.declared.points.RunPoint.{RunPoint}
use Rattle.s161_search.proofs.Pointing.{gone_on, stands_again}
use Rattle.s161_search.proofs.delays.DelayedRunsRuns.advance.Goals as goal

pub returns-in-Some-2-clause-ok : goal.returns-in-Some-2-clause-ok
returns-in-Some-2-clause-ok c = λ others agree.
    let self = c.args.self.now in
    let given = given_of self.basis.now.inputs.now in
    let old = c.args.point.now in
    let rules = c.in_ok-policy.policy in
    let size = old.events.ok.0 in
    let new : RunPoint = record {
      core = c.go_along.new.core;
      cursor = c.go_along.new.cursor;
      events = c.go_along.new.events;
      passed = old.passed + c.in-Some-2.made;
      steps = c.go_along.new.steps;
    } in
    let went : PassesNoting rules (slice_get rules.keys) c.saturating_sub-left.result c.saturating_sub-more.result c.in-Some.cursor old.core.value.state
    old.events.items c.in-Some-2.made new.cursor new.core.value.state new.events.items =
    subst (λ o. IfSome o (λ made. PassesNoting rules (slice_get rules.keys) c.saturating_sub-left.result c.saturating_sub-more.result c.in-Some.cursor
    old.core.value.state old.events.items made new.cursor new.core.value.state new.events.items)) c.in-Some-2.is c.in_ok-made.ensures.went in
    let first = self.basis.now.start.now.events.ok.0 in
    let left : c.saturating_sub-left.result ≡ most_of self.basis.now.task given - (length old.events.items - length self.basis.now.start.now.events.items) =
    omega (arith, c.saturating_sub-left.ensures, c.saturating_sub-chosen.ensures, c.most.ensures, c.len.ensures, c.len-2.ensures, size, first) in
    gone_on self.basis.now.start.now self.basis.now.task given self.turns c.args.place c.saturating_sub-left.result c.saturating_sub-more.result c.in-Some-2.made
    c.args.delays.now rules old new c.in-Some.cursor c.in_ok-policy.ensures.ok c.in-Some.ensures went left c.saturating_sub-more.ensures refl
    c.in_ok-made.ensures.kept others agree (c.requires others agree)

pub returns-in_default-clause-ok : goal.returns-in_default-clause-ok
returns-in_default-clause-ok c =
    let self = c.args.self.now in
    stands_again c.start_again.result self.basis.now.start.now self.basis.now.task (given_of self.basis.now.inputs.now) self.turns (delays_of c.args.delays.now) c.args.place
    c.start_again.new.point c.start_again.ensures.ok

pub returns-in-None-clause-ok : goal.returns-in-None-clause-ok
returns-in-None-clause-ok c =
    let self = c.args.self.now in
    stands_again c.start_again-in-None.result self.basis.now.start.now self.basis.now.task (given_of self.basis.now.inputs.now) self.turns (delays_of c.args.delays.now) c.args.place
    c.start_again-in-None.new.point c.start_again-in-None.ensures.ok
