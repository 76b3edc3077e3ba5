use Rattle.std.proofs.Common.{◌-◌, string_bytes}
use Rattle.m161_machine.specs.State.{processor_at}
use Rattle.m161_trace.specs.helpers.Adds.{AddsIn}
use Rattle.m161_trace.specs.Items.{each, register_item}
use Rattle.m161_trace.proofs.processor.add_registers.Given as goal

abbrev pub invariant-loop-r : goal.invariant-loop-r
invariant-loop-r g l = AddsIn l.style (string_bytes l.fn.text) (each 1 (l.r - 1) (register_item (processor_at l.p l.before.state.processors) (processor_at l.p l.after.state.processors))) (string_bytes l.text)
