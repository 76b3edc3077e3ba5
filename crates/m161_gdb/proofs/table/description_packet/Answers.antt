use Rattle.m161_gdb.proofs.Rows.{described}
use Rattle.m161_gdb.proofs.table.description_packet.Goals as goal

pub returns-in-Some : goal.returns-in-Some
returns-in-Some c = described c.args.body.now c.in-Some.rest.now c.description.result c.in-Some.ensures.cases.0 c.in-Some.ensures.cases.1 c.description.ensures
