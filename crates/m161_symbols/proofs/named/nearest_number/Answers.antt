use Rattle.std.proofs.Common.{◌<◌, ◌+◌, ◌-◌, ℕ, map, sym, subst, get_or, arith}
use Rattle.std.proofs.lemmas.List.{length-map}
use Rattle.m161_symbols.specs.declared.named.Place.{Place}
use Rattle.m161_symbols.specs.helpers.{Splits}
use Rattle.m161_symbols.specs.Table.{seen}
use Rattle.m161_symbols.proofs.Nearest.{nearest_none, number_inside, number_is}
use Rattle.m161_symbols.proofs.named.nearest_number.Goals as goal

pub returns-then-end-eq0 : goal.returns-then-end-eq0
returns-then-end-eq0 c =
    let places = c.args.places.now in
    let address = c.args.address in
    let splits : Splits (address + 1) 0 places =
    subst (λ (e : ℕ). Splits (address + 1) e places) c.if-end-eq0.true
    (subst (λ (a : ℕ). Splits (a + 1) c.count_below-end.result places) c.from.ensures
    c.count_below-end.ensures) in
    record {
      value = sym (nearest_none (map seen c.args.symbols.now) places address c.requires splits);
      within = tt;
    }

pub returns : goal.returns
returns c =
    let symbols = map seen c.args.symbols.now in
    let places = c.args.places.now in
    let address = c.args.address in
    let end = c.count_below-end.result in
    let first = c.count_below-first.result in
    let d : Place = record { value = 0; number = 0 } in
    let some : 0 < end = omega arith in
    let splits : Splits (address + 1) end places =
    subst (λ (a : ℕ). Splits (a + 1) end places) c.from.ensures c.count_below-end.ensures in
    let firsts : Splits (get_or places (end - 1) d).value first places =
    subst (λ (v : ℕ). Splits v first places) c.from-2.ensures c.count_below-first.ensures in
    let inside = number_inside symbols places address end first d c.requires some splits firsts in
    record {
      value = number_is symbols places address end first d c.requires some splits firsts;
      within = omega (arith, inside, length-map c.args.symbols.now seen);
    }
