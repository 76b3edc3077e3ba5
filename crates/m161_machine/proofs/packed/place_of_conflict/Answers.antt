use Rattle.m161_machine.proofs.Places.{conflict_place}
use Rattle.m161_machine.proofs.packed.place_of_conflict.Goals as goal

pub returns-clause-value : goal.returns-clause-value
returns-clause-value c = rw (c.from.ensures, c.from-2.ensures) (conflict_place c.args.row c.args.other c.requires.1)
