use Rattle.std.proofs.Common.{string_bytes}
use Rattle.m161_trace.specs.helpers.Adds.{Adds}
use Rattle.m161_trace.specs.Items.{each, start_item}
use Rattle.m161_trace.proofs.shared.add_starts.Given as goal

abbrev pub invariant-loop-q : goal.invariant-loop-q
invariant-loop-q l = Adds (string_bytes l.fn.text) (each 0 l.q (start_item l.before l.after)) (string_bytes l.text)
