use Rattle.std.proofs.Common.{suc, length, arith, ap}
use Rattle.m161_shorten.specs.Passes.{Place, first_place}
use Rattle.m161_shorten.specs.Verdicts.{Needs}
use Rattle.m161_shorten.proofs.Measures.{end_needed, ended, goes_more, lighter, moved_not, moved_on, no_longer, still_from, turns}
use Rattle.m161_shorten.proofs.Alike.{goes_by, same_after, same_from}
use Rattle.m161_shorten.proofs.passes.shorten.Goals as goal

pub returns-then-not-branch-clause-passes : goal.returns-then-not-branch-clause-passes
returns-then-not-branch-clause-passes g c =
    let so_far = c.loop-passes.invariant.places in
    ended (g.J.Kind.PartialEq.eq c.args.kind) (g.J.Judge.judges c.args.judge.now) so_far.0 c.args.events.items c.passes.inside.events.items c.loop-passes.passes c.go_on.new.self so_far.1
    (moved_not (g.J.Kind.PartialEq.eq c.args.kind) _ c.loop-passes.passes c.go_on.new.self c.in_ok-go_on.field-0 c.if-not-branch.true c.in_ok-go_on.ensures.moves) (ap (λ (s : Place). s.events) c.passes.view_is)

pub returns-then-not-branch-clause-needed : goal.returns-then-not-branch-clause-needed
returns-then-not-branch-clause-needed g c keeps all =
    end_needed (g.J.Kind.PartialEq.eq c.args.kind) (g.J.Judge.judges c.args.judge.now) c.args.events.items c.passes.inside.events.items keeps all (returns-then-not-branch-clause-passes g c)

pub loop-passes-smaller : goal.loop-passes-smaller
loop-passes-smaller g c =
    let s = c.loop-passes.passes in
    let t = c.go_on.new.self in
    let is_kind = g.J.Kind.PartialEq.eq c.args.kind in
    let next = moved_on is_kind _ s t c.in_ok-go_on.field-0 c.if-not-branch.false c.in_ok-go_on.ensures.moves in
    (lighter _ (length c.args.events.items) s t c.loop-passes.invariant.few (turns is_kind _ s t next)).1

pub loop-passes-preserved : goal.loop-passes-preserved
loop-passes-preserved g c =
    let s = c.loop-passes.passes in
    let t = c.go_on.new.self in
    let es = c.args.events.items in
    let is_kind = g.J.Kind.PartialEq.eq c.args.kind in
    let judges = g.J.Judge.judges c.args.judge.now in
    let now = moved_on is_kind _ s t c.in_ok-go_on.field-0 c.if-not-branch.false c.in_ok-go_on.ensures.moves in
    let next = goes_by is_kind (g.J.Judge.judges c.loop-passes.judge) judges s t (same_from _ _ c.loop-passes.invariant.same) now in
    let turn = turns is_kind judges s t next in
    let so_far = c.loop-passes.invariant.places in
    let fewer = c.loop-passes.invariant.fewer in
    let less = (no_longer (Needs is_kind judges) s t turn).1 in
    record {
      places = (suc so_far.0, goes_more is_kind judges so_far.0 (first_place es) s t so_far.1 next);
      few = (lighter (Needs is_kind judges) (length es) s t c.loop-passes.invariant.few turn).0;
      judged = still_from (Needs is_kind judges) es s t c.loop-passes.invariant.judged turn;
      fewer = omega (arith, less, fewer);
      same = same_after _ _ _ c.loop-passes.invariant.same c.in_ok-go_on.ensures.same;
    }
