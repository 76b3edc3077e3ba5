use Rattle.std.proofs.Common.{string_bytes}
use Rattle.m161_trace.specs.helpers.Adds.{Adds}
use Rattle.std.proofs.Common.{take}
use Rattle.std.specs.Prelude.{flat_map}
use Rattle.m161_trace.specs.Items.{control_item, shown_registers}
use Rattle.m161_trace.proofs.processor.add_controls.Given as goal

abbrev pub invariant-loop-i : goal.invariant-loop-i
invariant-loop-i g l = Adds (string_bytes l.fn.text) (flat_map (control_item l.p l.before.state l.after.state) (take l.i shown_registers)) (string_bytes l.text)
