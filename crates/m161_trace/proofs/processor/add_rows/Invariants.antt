use Rattle.std.proofs.Common.{string_bytes}
use Rattle.m161_machine.specs.State.{processor_at}
use Rattle.m161_trace.specs.helpers.Adds.{Adds}
use Rattle.m161_trace.specs.Items.{each, row_item}
use Rattle.m161_trace.proofs.processor.add_rows.Given as goal

abbrev pub invariant-loop-i : goal.invariant-loop-i
invariant-loop-i g l = Adds (string_bytes l.fn.text) (each 0 l.i (row_item (processor_at l.p l.before.state.processors).rows (processor_at l.p l.after.state.processors).rows)) (string_bytes l.text)
