use Rattle.s161_work.proofs.work.do_task.Goals as goal

-- the task is the arm's, and but for a debugger's notes standard error isn't written to
pub returns-in-Trace-clause-finished : goal.returns-in-Trace-clause-finished
returns-in-Trace-clause-finished g c = rw c.in-Trace.is (c.trace_out.ensures.traced (g.E.Write.contents c.args.errors.now))

pub returns-in-Trace-clause-fault : goal.returns-in-Trace-clause-fault
returns-in-Trace-clause-fault g c = rw c.in-Trace.is (c.trace_out.ensures.fault (g.E.Write.contents c.args.errors.now))

pub returns-in-Debug-clause-finished : goal.returns-in-Debug-clause-finished
returns-in-Debug-clause-finished g c = rw c.in-Debug.is c.debug_out.ensures.debugged

pub returns-in-Debug-clause-fault : goal.returns-in-Debug-clause-fault
returns-in-Debug-clause-fault g c = rw c.in-Debug.is c.debug_out.ensures.fault

pub returns-in-Gdb-clause-finished : goal.returns-in-Gdb-clause-finished
returns-in-Gdb-clause-finished g c = rw c.in-Gdb.is (c.gdb_out.ensures.answered (g.E.Write.contents c.args.errors.now))

pub returns-in-Gdb-clause-fault : goal.returns-in-Gdb-clause-fault
returns-in-Gdb-clause-fault g c = rw c.in-Gdb.is (c.gdb_out.ensures.fault (g.E.Write.contents c.args.errors.now))

pub returns-in-Console-clause-asks : goal.returns-in-Console-clause-asks
returns-in-Console-clause-asks g c = rw c.in-Console.is c.serve.ensures.asks

pub returns-in-Trace-clause-asks : goal.returns-in-Trace-clause-asks
returns-in-Trace-clause-asks g c = rw c.in-Trace.is c.trace_out.ensures.asks

pub returns-in-Debug-clause-asks : goal.returns-in-Debug-clause-asks
returns-in-Debug-clause-asks g c = rw c.in-Debug.is c.debug_out.ensures.asks

pub returns-in-Gdb-clause-asks : goal.returns-in-Gdb-clause-asks
returns-in-Gdb-clause-asks g c = rw c.in-Gdb.is c.gdb_out.ensures.asks
