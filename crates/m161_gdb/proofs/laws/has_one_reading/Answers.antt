use Rattle.m161_gdb.proofs.Readings.{has_one_reading}
use Rattle.m161_gdb.proofs.laws.has_one_reading.Goals as goal

pub returns : goal.returns
returns c = has_one_reading
