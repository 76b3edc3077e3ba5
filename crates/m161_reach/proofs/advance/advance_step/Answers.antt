use Rattle.std.proofs.Common.{◌∙◌, ap, refl, sym}
use Rattle.m161_alike.specs.View.{known_of}
use Rattle.m161_states.specs.System.{Explored}
use Rattle.m161_states.specs.Verdicts.{reads_next, unknown_by}
use Rattle.m161_reach.proofs.Encoding.{if_ok}
use Rattle.m161_reach.proofs.Fresh.{fresh_next}
use Rattle.m161_reach.proofs.advance.advance_step.Goals as goal

pub returns-in-Some : goal.returns-in-Some
returns-in-Some g c =
    let p = c.args.p in (
      ap (unknown_by (known_of c.args.known.now p) p)
          (ap (λ (x : Explored). reads_next p x.state) (sym c.place.view_is) ∙ fresh_next p c.place.inside.core.state)
          ∙ sym c.unknown.ensures ∙ c.in-Some.is,
      refl,
    )

pub returns-in-None : goal.returns-in-None
returns-in-None g c =
    let p = c.args.p in
    if_ok c.advance_known.result (λ came h. h c.args.known.now
    (ap (unknown_by (known_of c.args.known.now p) p)
    (ap (λ (x : Explored). reads_next p x.state) (sym c.place.view_is) ∙ fresh_next p c.place.inside.core.state)
    ∙ sym c.unknown.ensures ∙ c.in-None.is)) c.advance_known.ensures
