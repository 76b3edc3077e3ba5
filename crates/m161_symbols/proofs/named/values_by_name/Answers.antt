use Rattle.std.specs.Prelude.{bytes_eq}
use Rattle.std.specs.Map.{lookup}
use Rattle.std.proofs.Common.{◌≡◌, ◌∙◌, ◌+◌, [], ◌∷◌, ◌++◌, map, take, sym, ap}
use Rattle.std.proofs.lemmas.List.{map-append, take_more}
use Rattle.m161_symbols.specs.Names.{value_in}
use Rattle.m161_symbols.specs.Table.{entries_seen, seen}
use Rattle.m161_symbols.proofs.Found.{found_more}
use Rattle.m161_symbols.proofs.named.values_by_name.Goals as goal

pub loop-symbol-preserved : goal.loop-symbol-preserved
loop-symbol-preserved c = λ name.
    let symbols = c.args.symbols.now in
    let i = c.loop-symbol.symbol-index in
    let s = c.symbol-item.result in
    let names = map seen (take i symbols) in
    let more : map seen (take (i + 1) symbols) ≡ names ++ seen s ∷ [] =
    ap (map seen) (take_more symbols i s c.loop-symbol-test.true)
    ∙ map-append seen (take i symbols) _
    ∙ ap (λ x. names ++ seen x ∷ []) (sym c.symbol-item.is) in
    ap (lookup (bytes_eq name)) c.in_ok-add_name.ensures
    ∙ found_more (entries_seen c.loop-symbol.by_name) names (seen s) c.loop-symbol.invariant name
    ∙ ap (λ xs. value_in xs name) (sym more)
