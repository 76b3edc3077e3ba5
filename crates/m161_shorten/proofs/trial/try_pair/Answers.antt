use Rattle.std.proofs.Common.{◌≡◌, inl, inr, subst, arith, [], ◌∷◌}
use Rattle.m161_shorten.specs.helpers.Ranges.{swapped}
use Rattle.m161_shorten.specs.helpers.Tries.{Tries}
use Rattle.m161_shorten.proofs.Alike.{same_from, tries_by}
use Rattle.m161_shorten.proofs.Trying.{first_enough, has_none, second_tries}
use Rattle.m161_shorten.proofs.trial.try_pair.Goals as goal
use Rattle.m161_shorten.proofs.trial.try_pair.Goals.{then-first-via-then-first, then-first-via-else-first+then-left-eq1}

pub returns-then-first-clause-tries : goal.returns-then-first-clause-tries
returns-then-first-clause-tries g c =
    let es = c.args.events.now.items in
    let pair = c.args.pair in
    first_enough (g.J.Kind.PartialEq.eq c.args.kind) (g.J.Judge.judges c.args.judge.now)
    (swapped pair.between pair.next pair.behind es) (swapped pair.block pair.between pair.next es) es c.try_swapped.new.events.items c.in_ok-first.first c.args.left
    c.in_ok-first.ensures.tries c.requires.some
    (elim c.then-first.branch [ then-first-via-then-first w ↦ inl w.if-first.true | then-first-via-else-first+then-left-eq1 w ↦ inr w.if-left-eq1.true ])

pub returns-clause-tries : goal.returns-clause-tries
returns-clause-tries g c =
    let es = c.args.events.now.items in
    let pair = c.args.pair in
    let mid = c.try_swapped.new.events.items in
    let is_kind = g.J.Kind.PartialEq.eq c.args.kind in
    let judges = g.J.Judge.judges c.args.judge.now in
    let t = swapped pair.between pair.next pair.behind es in
    let u = swapped pair.block pair.between pair.next es in
    let first = c.in_ok-first.ensures.tries in
    let stays : mid ≡ es = first.stays c.if-first.false in
    let fs = c.try_swapped-2.new.events.items in
    let second = c.in_ok-second.second in
    let some = c.requires.some in
    let more = c.if-left-eq1.false in
    let tries = tries_by is_kind _ judges (swapped pair.block pair.between pair.next mid ∷ []) mid second fs (same_from _ _ c.in_ok-first.ensures.same) c.in_ok-second.ensures.tries in
    second_tries is_kind judges t u es fs second c.args.left (has_none is_kind judges t es mid c.in_ok-first.first first c.if-first.false)
    (subst (λ xs. Tries is_kind judges (swapped pair.block pair.between pair.next xs ∷ []) xs second fs) stays tries)
    c.in_ok-second.ensures.one (omega (arith, some, more))
