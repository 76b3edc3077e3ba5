use Rattle.std.proofs.Common.{◌∙◌, ◌-◌, Some, ap, sym}
use Rattle.m161_symbols.specs.Names.{with_distance}
use Rattle.m161_symbols.proofs.Nearest.{below_low, symbol_there}
use Rattle.m161_symbols.proofs.named.nearest.Goals as goal

pub overflow_sub-result : goal.overflow_sub-result
overflow_sub-result c =
    let found = symbol_there c.args.symbols.now c.in-Some.number c.args.address
    c.index-symbols-number.result c.in-Some.ensures.value c.in-Some.ensures.within
    c.index-symbols-number.is in
    below_low _ c.args.address _ found

pub returns-in-Some : goal.returns-in-Some
returns-in-Some c =
    let address = c.args.address in
    let found = symbol_there c.args.symbols.now c.in-Some.number address
    c.index-symbols-number.result c.in-Some.ensures.value c.in-Some.ensures.within
    c.index-symbols-number.is in
    ap (λ n. Some (n, address - c.index-symbols-number.result.value)) c.as_str.ensures.value
    ∙ sym (ap (with_distance address) found)
