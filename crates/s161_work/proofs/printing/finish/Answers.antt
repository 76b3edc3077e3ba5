use Rattle.std.proofs.lemmas.Result.{IfOk-weaker}
use Rattle.s161_work.proofs.Asking.{assembly_asks, assembly_before, demo_asks, result_before}
use Rattle.s161_work.proofs.printing.finish.Goals as goal

-- the task is the arm's
pub returns-in-Run-clause-ok : goal.returns-in-Run-clause-ok
returns-in-Run-clause-ok g c = rw c.in-Run.is c.finish_scheduled.ensures.ok

pub returns-in-RunInThreads-clause-ok : goal.returns-in-RunInThreads-clause-ok
returns-in-RunInThreads-clause-ok g c = rw c.in-RunInThreads.is c.finish_threads.ensures.ok

pub returns-in-RunDriven-clause-ok : goal.returns-in-RunDriven-clause-ok
returns-in-RunDriven-clause-ok g c = rw c.in-RunDriven.is c.finish_driven.ensures.ok

pub returns-in-Replay-clause-ok : goal.returns-in-Replay-clause-ok
returns-in-Replay-clause-ok g c = rw c.in-Replay.is (IfOk-weaker c.replay.result _ _ (λ done h. (c.requires.empty, h)) c.replay.ensures.ok)

pub returns-in-Search-clause-ok : goal.returns-in-Search-clause-ok
returns-in-Search-clause-ok g c = rw c.in-Search.is c.search.ensures.ok

pub returns-in-Explore-clause-ok : goal.returns-in-Explore-clause-ok
returns-in-Explore-clause-ok g c = rw c.in-Explore.is c.explore.ensures.ok

pub returns-in-Audit-clause-ok : goal.returns-in-Audit-clause-ok
returns-in-Audit-clause-ok g c = rw c.in-Audit.is c.audit.ensures.ok

pub returns-in-Run-clause-unread : goal.returns-in-Run-clause-unread
returns-in-Run-clause-unread g c = rw c.in-Run.is (λ none. absurd none)

pub returns-in-Audit-clause-unread : goal.returns-in-Audit-clause-unread
returns-in-Audit-clause-unread g c = rw c.in-Audit.is (λ none. absurd none)

pub returns-in-Assemble-clause-unread : goal.returns-in-Assemble-clause-unread
returns-in-Assemble-clause-unread g c = rw c.in-Assemble.is (λ none. absurd none)

pub returns-in-Demo-clause-asks : goal.returns-in-Demo-clause-asks
returns-in-Demo-clause-asks g c = rw c.in-Demo.is (demo_asks c.finish_demo.result (g.F.FileSource.asked c.args.files.now) c.finish_demo.ensures.fault)

pub returns-in-Run-clause-asks : goal.returns-in-Run-clause-asks
returns-in-Run-clause-asks g c = rw c.in-Run.is c.finish_scheduled.ensures.asks

pub returns-in-RunInThreads-clause-asks : goal.returns-in-RunInThreads-clause-asks
returns-in-RunInThreads-clause-asks g c = rw c.in-RunInThreads.is c.finish_threads.ensures.asks

pub returns-in-RunDriven-clause-asks : goal.returns-in-RunDriven-clause-asks
returns-in-RunDriven-clause-asks g c = rw c.in-RunDriven.is c.finish_driven.ensures.asks

pub returns-in-Schedule-clause-asks : goal.returns-in-Schedule-clause-asks
returns-in-Schedule-clause-asks g c = rw c.in-Schedule.is c.finish_schedule.ensures.asks

pub returns-in-Search-clause-asks : goal.returns-in-Search-clause-asks
returns-in-Search-clause-asks g c = rw c.in-Search.is c.search.ensures.asks

pub returns-in-Explore-clause-asks : goal.returns-in-Explore-clause-asks
returns-in-Explore-clause-asks g c = rw c.in-Explore.is c.explore.ensures.asks

pub returns-in-Replay-clause-asks : goal.returns-in-Replay-clause-asks
returns-in-Replay-clause-asks g c = rw c.in-Replay.is c.replay.ensures.asks

pub returns-in-Audit-clause-asks : goal.returns-in-Audit-clause-asks
returns-in-Audit-clause-asks g c = rw c.in-Audit.is c.audit.ensures.asks

pub returns-in-Disassemble-clause-asks : goal.returns-in-Disassemble-clause-asks
returns-in-Disassemble-clause-asks g c = rw c.in-Disassemble.is c.finish_listing.ensures.asks

pub returns-in-Assemble-clause-asks : goal.returns-in-Assemble-clause-asks
returns-in-Assemble-clause-asks g c =
    rw c.in-Assemble.is (assembly_asks (g.I.Read.remaining c.args.input.now) c.finish_assembly.result (g.F.FileSource.asked c.args.files.now) c.finish_assembly.ensures.fault)

pub returns-in-Assemble-clause-before : goal.returns-in-Assemble-clause-before
returns-in-Assemble-clause-before g c =
    let a = g.I.Read.remaining c.args.input.now in
    assembly_before a c.finish_assembly.result a (g.I.Read.remaining c.finish_assembly.new.input) c.finish_assembly.ensures.fault

pub returns-in-Demo-clause-before : goal.returns-in-Demo-clause-before
returns-in-Demo-clause-before g c = result_before c.finish_demo.result (g.I.Read.remaining c.args.input.now)

pub returns-in-RunInThreads-clause-before : goal.returns-in-RunInThreads-clause-before
returns-in-RunInThreads-clause-before g c = result_before c.finish_threads.result (g.I.Read.remaining c.args.input.now)

pub returns-in-RunDriven-clause-before : goal.returns-in-RunDriven-clause-before
returns-in-RunDriven-clause-before g c = result_before c.finish_driven.result (g.I.Read.remaining c.args.input.now)

pub returns-in-Schedule-clause-before : goal.returns-in-Schedule-clause-before
returns-in-Schedule-clause-before g c = result_before c.finish_schedule.result (g.I.Read.remaining c.args.input.now)

pub returns-in-Search-clause-before : goal.returns-in-Search-clause-before
returns-in-Search-clause-before g c = result_before c.search.result (g.I.Read.remaining c.args.input.now)

pub returns-in-Explore-clause-before : goal.returns-in-Explore-clause-before
returns-in-Explore-clause-before g c = result_before c.explore.result (g.I.Read.remaining c.args.input.now)

pub returns-in-Replay-clause-before : goal.returns-in-Replay-clause-before
returns-in-Replay-clause-before g c = result_before c.replay.result (g.I.Read.remaining c.args.input.now)

pub returns-in-Disassemble-clause-before : goal.returns-in-Disassemble-clause-before
returns-in-Disassemble-clause-before g c = result_before c.finish_listing.result (g.I.Read.remaining c.args.input.now)
