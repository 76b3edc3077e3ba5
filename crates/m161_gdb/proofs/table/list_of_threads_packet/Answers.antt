use Rattle.m161_gdb.proofs.Rows.{listed}
use Rattle.m161_gdb.proofs.table.list_of_threads_packet.Goals as goal

pub returns-in-Some : goal.returns-in-Some
returns-in-Some c = listed c.args.body.now c.in-Some.rest.now c.thread_list.result c.in-Some.ensures.cases.0 c.in-Some.ensures.cases.1 c.thread_list.ensures
