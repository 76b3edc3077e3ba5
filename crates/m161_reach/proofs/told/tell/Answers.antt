use Rattle.m161_reach.proofs.Telling.{tells_all}
use Rattle.m161_reach.proofs.told.tell.Goals as goal

pub returns : goal.returns
returns g c =
    tells_all c.hanging_are_made.ensures.law c.args.few c.args.ends.now c.args.events.now c.args.judged c.find.result c.find.ensures
