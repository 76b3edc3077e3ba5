use Rattle.s161_search.specs.helpers.Inputs.{given_of}
use Rattle.s161_search.proofs.Judging.{tried_by}
use Rattle.s161_search.proofs.seeds.try_seeds.Goals as goal

pub returns-clause-ok : goal.returns-clause-ok
returns-clause-ok g c =
    tried_by c.args.basis.now.task (given_of c.args.basis.now.inputs.now) c.args.basis.now.start.now c.args.basis.now.ends.now c.try_each.result c.requires.begins c.try_each.ensures.ok
