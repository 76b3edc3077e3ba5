use Rattle.std.proofs.Common.{arith, string_bytes}
use Rattle.m161_steplog.proofs.Blocks.{last_text}
use Rattle.m161_steplog.proofs.Reread.{reread_text}
use Rattle.m161_steplog.proofs.written.write_schedule.Goals as goal

pub returns-clause-text : goal.returns-clause-text
returns-clause-text c = last_text c.args.events.now (string_bytes c.loop-event.text) _ c.loop-event.event-index c.loop-event.item (omega arith) c.loop-event.invariant.text c.loop-event.invariant.item c.in_ok-push_line.ensures

pub returns-clause-read : goal.returns-clause-read
returns-clause-read c = λ few. reread_text c.args.events.now _ c.loop-event.event-index (omega arith) c.loop-event.invariant.fit (returns-clause-text c) few
