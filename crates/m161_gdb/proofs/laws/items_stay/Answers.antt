use Rattle.m161_gdb.proofs.Readings.{items_stay}
use Rattle.m161_gdb.proofs.laws.items_stay.Goals as goal

pub returns : goal.returns
returns c = items_stay
