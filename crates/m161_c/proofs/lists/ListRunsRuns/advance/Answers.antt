use Rattle.std.proofs.Common.{◌≡◌, ◌+◌, ◌-◌, length, refl, subst, arith}
use Rattle.std.specs.Prelude.{IfSome, slice_get}
use Rattle.m161_places.specs.Going.{PassesNoting}
use Rattle.m161_judge.specs.Verdict.{Criteria}
use Rattle.m161_c.specs.declared.points.RunPoint.{RunPoint}
use Rattle.m161_c.specs.helpers.Points.{KeepsFrom}
use Rattle.m161_c.proofs.Pointing.{gone_on}
use Rattle.m161_c.proofs.lists.ListRunsRuns.advance.Goals as goal

pub returns-in-Some-2-clause-ok : goal.returns-in-Some-2-clause-ok
returns-in-Some-2-clause-ok c = λ others agree.
    let self = c.args.self.now in
    let a = self.task.now in
    let old = c.args.point.now in
    let rules = c.in_ok-policy.policy in
    let size = old.events.ok.0 in
    let new : RunPoint = record {
      core = c.go_along.new.core;
      cursor = c.go_along.new.cursor;
      events = c.go_along.new.events;
      passed = old.passed + c.in-Some-2.made;
      steps = c.go_along.new.steps;
    } in
    let went : PassesNoting rules (slice_get rules.keys) c.saturating_sub-left.result c.saturating_sub-more.result c.in-Some.cursor old.core.value.state
    old.events.items c.in-Some-2.made new.cursor new.core.value.state new.events.items =
    subst (λ o. IfSome o (λ made. PassesNoting rules (slice_get rules.keys) c.saturating_sub-left.result c.saturating_sub-more.result c.in-Some.cursor
    old.core.value.state old.events.items made new.cursor new.core.value.state new.events.items)) c.in-Some-2.is c.in_ok-made.ensures.went in
    let left : c.saturating_sub-left.result ≡ a.events - length old.events.items =
    omega (arith, c.saturating_sub-left.ensures, c.most.ensures, c.len.ensures, size) in
    let kept : KeepsFrom a.goal new.events.items old.steps new.steps =
    subst (λ (g : Criteria). KeepsFrom g new.events.items old.steps new.steps) c.goal.ensures c.in_ok-made.ensures.kept in
    gone_on a self.booted.now self.steps.now self.turns c.args.place c.saturating_sub-left.result c.saturating_sub-more.result c.in-Some-2.made
    c.args.delays.now rules old new c.in-Some.cursor c.in_ok-policy.ensures c.in-Some.ensures went left c.saturating_sub-more.ensures refl kept others agree
    (c.requires others agree)
