use Rattle.std.proofs.Common.{refl}
use Rattle.s161_work.proofs.Refusals.{says_why, unsaid_ends}
use Rattle.s161_work.proofs.work.work.Goals as goal

pub returns-in-Err-clause-rejected : goal.returns-in-Err-clause-rejected
returns-in-Err-clause-rejected g c = λ two.
    let said = c.refuse.ensures.refused two in
    let before = g.E.Write.contents c.args.errors.now in
    let after = g.E.Write.contents c.refuse.new.errors in (
      says_why _ c.in-Err.rejection before after c.in-Err.ensures.rejected said.0 said.2,
      refl,
      refl,
      said.1,
    )

pub returns-in-Err-clause-failed : goal.returns-in-Err-clause-failed
returns-in-Err-clause-failed g c = λ one.
    unsaid_ends _ _ _ c.in-Err.rejection _ (g.O.Write.contents c.args.output.now) (g.O.Write.contents c.refuse.new.output) (g.E.Write.contents c.args.errors.now)
    (g.E.Write.contents c.refuse.new.errors) c.in-Err.ensures.rejected (c.refuse.ensures.unsaid one)
