use Rattle.m161_trace.proofs.Spaced.{both, both_ok}
use Rattle.m161_trace.proofs.places.add_common.Goals as goal

pub returns : goal.returns
returns g c = both_ok _ _ _ _ _ _ (both _ _ _ _ _ (both _ _ _ _ _ c.in_ok-add_word.ensures c.in_ok-add_word-2.ensures) c.in_ok-add_word-3.ensures) c.add_word-4.ensures
