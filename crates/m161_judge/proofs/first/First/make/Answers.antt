use Rattle.std.proofs.Common.{◌≡◌, ◌∙◌, refl, sym, ap, subst, arith, length}
use Rattle.std.proofs.lemmas.List.{take_all}
use Rattle.m161_judge.specs.Seen.{HasSeen}
use Rattle.m161_judge.specs.Verdict.{Criteria, after}
use Rattle.m161_judge.proofs.Seeing.{nothing_seen}
use Rattle.m161_judge.proofs.Walking.{Walking, keys_are, walks_more}
use Rattle.m161_judge.proofs.first.First.make.Goals as goal

pub loop-made-init : goal.loop-made-init
loop-made-init g c =
    let aim = c.args.goal.now in
    let s = c.args.core.now.state in
    let events = c.args.events.now in
    record {
      leads = (omega arith, refl);
      left_is = let keys = ap (λ (x : Criteria). length x.keys) c.goal.view_is in omega (arith, keys);
      looked = subst (HasSeen aim s events 0) (sym c.nothing_seen-seen.ensures) (nothing_seen aim s events);
    }

pub loop-made-preserved : goal.loop-made-preserved
loop-made-preserved g c =
    let aim = c.args.goal.now in
    let s = c.args.core.now.state in
    let events = c.args.events.now in
    let w = c.loop-made.invariant in
    let t = c.loop-made.core.state in
    let keys = keys_are aim s events c.loop-made.made c.loop-made.left t c.loop-made.seen w in
    walks_more aim s events c.loop-made.made c.loop-made.left c.left_after-left.result _ t c.make.new.core.state c.loop-made.seen c.look-seen.result
    c.in_ok-make.field-0 (omega arith) w
    (c.look-seen.ensures aim s events (sym (ap (λ (x : Criteria). x.output) c.goal.view_is)) keys w.leads w.looked)
    c.in_ok-make.ensures c.if-not-branch.false c.left_after-left.ensures

pub returns : goal.returns
returns g c =
    let aim = c.args.goal.now in
    let s = c.args.core.now.state in
    let events = c.args.events.now in
    let t = c.loop-made.core.state in
    let all : c.loop-made.made ≡ length events = omega arith in
    let w : Walking aim s events (length events) c.loop-made.left t c.loop-made.seen =
    subst (λ n. Walking aim s events n c.loop-made.left t c.loop-made.seen) all c.loop-made.invariant in
    record {
      made_is = refl;
      leads = sym (ap (after s) (take_all (length events) events (omega arith))) ∙ w.leads.1;
      looked = w.looked;
    }
