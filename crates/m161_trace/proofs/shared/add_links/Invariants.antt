use Rattle.std.proofs.Common.{◌++◌, string_bytes}
use Rattle.m161_trace.specs.helpers.Adds.{Adds}
use Rattle.std.specs.Prelude.{None, slice_index_or}
use Rattle.m161_trace.specs.Items.{each, linked_items, unlinked_item}
use Rattle.m161_trace.proofs.shared.add_links.Given as goal

abbrev pub invariant-loop-q : goal.invariant-loop-q
invariant-loop-q g l = Adds (string_bytes l.fn.text) (linked_items (slice_index_or l.before.state.links.live l.p None) (slice_index_or l.after.state.links.live l.p None) ++ each 0 l.q (unlinked_item l.before.state.links.live l.after.state.links.live)) (string_bytes l.text)
