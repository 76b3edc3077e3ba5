use Rattle.std.proofs.Common.{◌∙◌, subst, Err}
use Rattle.std.specs.Prelude.{IfErr, None}
use Rattle.m161_judge.specs.Judge.{bytes_of}
use Rattle.m161_c.specs.Seeds.{asked_with}
use Rattle.m161_c.specs.helpers.Listing.{LooksBy}
use Rattle.m161_c.proofs.listed.seek_watched.Goals as goal

pub returns-clause-err : goal.returns-clause-err
returns-clause-err c =
    subst (λ watches. IfErr c.seek_booted.result (λ why. LooksBy None c.args.turns c.args.class c.args.from.now c.args.limit
    (asked_with c.args.file.now c.args.numbers.now c.args.n
    (record { watches = watches; never = c.args.never.now; output = bytes_of c.args.output; keys = c.args.keys.now }) c.args.few c.args.conf) (Err why)))
    (c.deref.ensures.value ∙ c.in-Ok.ensures) c.seek_booted.ensures.err
