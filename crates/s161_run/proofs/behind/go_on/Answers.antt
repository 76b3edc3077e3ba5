use Rattle.std.proofs.Common.{arith}
use Rattle.m161_machine.proofs.Made.{counted}
use Rattle.s161_run.proofs.Logging.{run_leads}
use Rattle.s161_run.proofs.behind.go_on.Goals as goal

pub overflow_add-behind : goal.overflow_add-behind
overflow_add-behind g c =
    let made = c.in_ok-driven.ensures in
    let count = counted made.0 c.args.core.now.state c.make_driven.new.core.state (run_leads made.1) in
    let long = made.1.made_is in
    let before = c.requires.made in
    let all = c.made-all.ensures in
    let fits = c.made-all.type_inv in
    omega (arith, count, long, before, all, fits)
