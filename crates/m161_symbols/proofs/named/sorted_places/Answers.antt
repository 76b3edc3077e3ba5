use Rattle.m161_symbols.proofs.Nearest.{are_places}
use Rattle.m161_symbols.proofs.named.sorted_places.Goals as goal

pub returns : goal.returns
returns c =
    are_places _ c.in_ok-places.places.items _ c.in_ok-places.ensures c.in_ok-sort.ensures.rising
    c.in_ok-sort.ensures.same
