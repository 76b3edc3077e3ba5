use Rattle.std.proofs.Common.{◌≡◌, ◌∙◌, refl, sym, ap, subst, arith, length}
use Rattle.m161_judge.specs.Verdict.{Criteria}
use Rattle.m161_judge.specs.Seen.{HasSeen}
use Rattle.m161_judge.proofs.Judging.{none_refused}
use Rattle.m161_judge.proofs.Seeing.{nothing_seen}
use Rattle.m161_judge.proofs.Walking.{Walking, ends_all, ends_off, keys_are, walks_more, walks_refused}
use Rattle.m161_judge.proofs.walk.walk_along.Goals as goal

pub loop-made-init : goal.loop-made-init
loop-made-init g c =
    let aim = c.args.goal.now in
    let s = c.args.core.now.state in
    let events = c.args.events.now in
    record {
      leads = (omega arith, refl);
      left_is = let keys = ap (λ (x : Criteria). length x.keys) c.goal.view_is in omega (arith, keys);
      looked = subst (HasSeen aim s events 0) (sym c.nothing_seen-seen.ensures) (nothing_seen aim s events);
    }

pub loop-made-preserved : goal.loop-made-preserved
loop-made-preserved g c =
    let aim = c.args.goal.now in
    let s = c.args.core.now.state in
    let events = c.args.events.now in
    let w = c.loop-made.invariant in
    let t = c.loop-made.core.state in
    let keys = keys_are aim s events c.loop-made.made c.loop-made.left t c.loop-made.seen w in
    walks_more aim s events c.loop-made.made c.loop-made.left c.left_after-left.result _ t c.make.new.core.state c.loop-made.seen c.look-seen.result
    c.in_ok-make.field-0 (omega arith) w
    (c.look-seen.ensures aim s events (sym (ap (λ (x : Criteria). x.output) c.goal.view_is)) keys w.leads w.looked)
    c.in_ok-make.ensures c.if-not-branch.false c.left_after-left.ensures

pub returns-then-not-branch : goal.returns-then-not-branch
returns-then-not-branch g c =
    walks_refused c.args.goal.now c.args.core.now.state c.args.events.now c.loop-made.made c.loop-made.left _ c.loop-made.core.state
    c.make.new.core.state c.loop-made.seen c.in_ok-make.field-0 (omega arith) c.loop-made.invariant (sym c.is_off.ensures ∙ c.if-is_off.false)
    c.in_ok-make.ensures c.if-not-branch.true

pub returns-then-is_off : goal.returns-then-is_off
returns-then-is_off g c =
    let aim = c.args.goal.now in
    let s = c.args.core.now.state in
    let events = c.args.events.now in
    let w = c.loop-made.invariant in
    let t = c.loop-made.core.state in
    let out = sym (ap (λ (x : Criteria). x.output) c.goal.view_is) in
    let keys = keys_are aim s events c.loop-made.made c.loop-made.left t c.loop-made.seen w in
    let ends = ends_off s events c.loop-made.made t w.leads (sym c.is_off.ensures ∙ c.if-is_off.true) in
    (none_refused s events c.loop-made.made t ends, c.verdict.ensures aim s events out ends (c.look-seen.ensures aim s events out keys w.leads w.looked))

pub returns : goal.returns
returns g c =
    let aim = c.args.goal.now in
    let s = c.args.core.now.state in
    let events = c.args.events.now in
    let t = c.loop-made.core.state in
    let all : c.loop-made.made ≡ length events = omega arith in
    let w : Walking aim s events (length events) c.loop-made.left t c.loop-made.seen =
    subst (λ n. Walking aim s events n c.loop-made.left t c.loop-made.seen) all c.loop-made.invariant in
    let out = sym (ap (λ (x : Criteria). x.output) c.goal.view_is) in
    let keys = keys_are aim s events (length events) c.loop-made.left t c.loop-made.seen w in
    let ends = ends_all s events (length events) t w.leads refl in
    (none_refused s events (length events) t ends, c.verdict-2.ensures aim s events out ends (c.look-seen-2.ensures aim s events out keys w.leads w.looked))
