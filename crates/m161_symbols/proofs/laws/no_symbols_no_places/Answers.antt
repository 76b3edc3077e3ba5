use Rattle.std.proofs.Common.{◌≡◌, ℕ, zero, suc, [], None, refl, ap}
use Rattle.m161_symbols.specs.Names.{behind_of, place_of, symbol_below, with_distance}
use Rattle.m161_symbols.proofs.laws.no_symbols_no_places.Goals as goal

none_below : (address : ℕ) → symbol_below [] address ≡ None
unfolding symbol_below
none_below zero = refl
none_below (suc below) = none_below below

pub returns : goal.returns
returns c = λ address. (
  ap (λ s. place_of (with_distance address s)) (none_below address),
  ap (λ s. behind_of (with_distance address s)) (none_below address),
)
