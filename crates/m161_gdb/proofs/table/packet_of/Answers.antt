use Rattle.m161_gdb.proofs.Rows.{found_short}
use Rattle.m161_gdb.proofs.table.packet_of.Goals as goal

pub returns-in-Some : goal.returns-in-Some
returns-in-Some c = found_short c.args.body.now c.in-Some.packet c.in-Some.ensures
