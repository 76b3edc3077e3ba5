use Rattle.std.proofs.Common.{◌≡◌, ◌+◌, ◌%◌, ◌^◌, ◌∷◌, ◌++◌, length, drop, Some, sym, ◌∙◌, ap, arith}
use Rattle.std.specs.List.{slice_get}
use Rattle.m161_asm.specs.Seen.{symbol_seen, symbols_seen}
use Rattle.m161_elf_writer.specs.Labels.{symbol_entries}
use Rattle.m161_elf_writer.proofs.LabelTable.{drop_some, get_map, symbol_more}
use Rattle.m161_elf_writer.proofs.labels.push_symbols.Goals as goal

pub loop-name-preserved : goal.loop-name-preserved
loop-name-preserved c =
    let labels = symbols_seen c.args.symbols.now in
    let i = c.loop-name.i in
    let label = symbol_seen (c.in-Some.name.now, c.in-Some.value.now) in
    let found : slice_get labels i ≡ Some label =
    get_map symbol_seen c.args.symbols.now.entries i
    (c.in-Some.name.now, c.in-Some.value.now) (sym c.in-Some.ensures.entry) in
    let split : drop i labels ≡ label ∷ drop (i + 1) labels =
    drop_some labels i (i + 1) label found (omega arith) in
    let low : c.word-place.result % 2 ^ 32 ≡ (c.loop-name.place + length label.0 + 1) % 2 ^ 32 =
    omega (arith, c.word-place.ensures, c.len.ensures) in
    symbol_more c.loop-name.file.items c.push_symbol.new.file.items _ c.loop-name.place
    c.word-place.result label (drop (i + 1) labels) c.in_ok-push_symbol.ensures low
    (ap (λ left. c.loop-name.file.items ++ symbol_entries c.loop-name.place left) (sym split)
    ∙ c.loop-name.invariant)
