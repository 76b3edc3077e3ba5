use Rattle.std.proofs.Common.{◌∙◌, ◌+◌, ◌-◌, arith}
use Rattle.std.specs.Prelude.{string_bytes}
use Rattle.m161_machine.specs.History.{boot_state, events_of}
use Rattle.s161_debug.proofs.Lasting.{all_lines, event_is, lines_more, state_more}
use Rattle.s161_debug.proofs.last.lines.Goals as goal

pub loop-i-preserved : goal.loop-i-preserved
loop-i-preserved c =
    let m = c.args.machine.now in
    let start = boot_state m.start in
    let i = c.loop-i.i in
    let first = c.saturating_sub-first.result in
    let is = event_is m.log i c.log_at-event.result c.log_at-event.ensures in
    record {
      text =
          lines_more c.args.style.now start (events_of m.log) first (i - first) (i + 1 - first) i c.log_at-event.result.event c.loop-i.before.state
          (string_bytes c.loop-i.text) (string_bytes c.push_line.new.text) (omega arith) (omega arith) is c.loop-i.invariant.here
          c.loop-i.invariant.text c.in_ok-push_line.ensures.text;
      here =
          state_more start (events_of m.log) i c.log_at-event.result.event c.loop-i.before.state c.push_line.new.before.state is
          c.loop-i.invariant.here c.in_ok-push_line.ensures.state;
      same = c.in_ok-push_line.ensures.same;
    }

pub returns : goal.returns
returns c =
    let m = c.args.machine.now in
    let first = c.saturating_sub-first.result in
    let last = c.saturating_sub-first.ensures in
    c.loop-i.invariant.text
    ∙ all_lines c.args.style.now (boot_state m.start) m.log c.args.number first (c.loop-i.i - first) (omega (arith, last)) (omega (arith, last))
