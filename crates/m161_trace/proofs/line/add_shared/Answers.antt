use Rattle.std.proofs.Common.{ap}
use Rattle.m161_trace.specs.Items.{stored_items}
use Rattle.m161_trace.proofs.Spaced.{both_in, both_in_ok, these_in}
use Rattle.m161_trace.proofs.line.add_shared.Goals as goal

pub returns : goal.returns
returns g c =
    let style = c.args.style.now in
    let stored = these_in style _ _ _ _ (ap (λ x. stored_items x c.args.after.now.state.memory) c.requires.stored) c.in_ok-add_stored.ensures in
    both_in_ok _ style _ _ _ _ _ (both_in style _ _ _ _ _ (both_in style _ _ _ _ _ (both_in style _ _ _ _ _ (both_in style _ _ _ _ _ stored (c.in_ok-add_links.ensures style)) (c.in_ok-add_latch_of.ensures style)) (c.in_ok-add_waiting_of.ensures style)) (c.in_ok-add_common.ensures style))
    c.add_places.ensures
