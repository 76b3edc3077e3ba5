use Rattle.std.proofs.Common.{◌∙◌, inl, inr, subst, sym}
use Rattle.m161_shorten.proofs.trial.needs.Goals as goal
use Rattle.m161_shorten.proofs.trial.needs.Goals.{in_default-via-in-Some+else-eq, in_default-via-in_default}

pub returns-in-Some-clause-needs : goal.returns-in-Some-clause-needs
returns-in-Some-clause-needs g c =
    let kind = c.in-Some.judged.kind in
    let here = subst (λ v. g.J.Judge.judges c.args.judge.now c.args.events.now v) c.in-Some.is c.in_ok-judged.ensures.verdict in
    (kind, here, sym c.eq.ensures ∙ c.if-eq.true)

pub returns-in_default-clause-needs : goal.returns-in_default-clause-needs
returns-in_default-clause-needs g c =
    let Says = g.J.Judge.judges c.args.judge.now c.args.events.now in
    let says = c.in_ok-judged.ensures.verdict in
    elim c.in_default.branch [
      | in_default-via-in-Some+else-eq w ↦ inr (w.in-Some.judged, subst Says w.in-Some.is says, sym w.eq.ensures ∙ w.if-eq.false)
      | in_default-via-in_default w ↦ inl (subst Says w.in_default.is says)
    ]
