use Rattle.m161_trace.specs.Items.{places_items}
use Rattle.m161_trace.proofs.Spaced.{both, both_ok}
use Rattle.m161_trace.proofs.places.add_all_places.Goals as goal

pub returns : goal.returns
unfolding places_items
returns g c = both_ok _ _ _ _ _ _ (both _ _ _ _ _ c.in_ok-add_enables.ensures c.in_ok-add_raised.ensures) c.add_crams.ensures
