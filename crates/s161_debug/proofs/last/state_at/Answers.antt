use Rattle.m161_machine.specs.History.{boot_state, events_of}
use Rattle.s161_debug.proofs.Lasting.{event_is, state_more}
use Rattle.s161_debug.proofs.last.state_at.Goals as goal

pub loop-i-preserved : goal.loop-i-preserved
loop-i-preserved c =
    let m = c.args.machine.now in
    state_more (boot_state m.start) (events_of m.log) c.loop-i.i c.log_at.result.event c.loop-i.core.state c.pass.new.core.state
    (event_is m.log c.loop-i.i c.log_at.result c.log_at.ensures) c.loop-i.invariant c.in_ok-pass.ensures
