use Rattle.std.proofs.Common.{◌≡◌, ◌+◌, ◌∷◌, ◌++◌, [], drop, Some, sym, ◌∙◌, ap, arith}
use Rattle.std.specs.List.{slice_get}
use Rattle.m161_asm.specs.Seen.{symbol_seen, symbols_seen}
use Rattle.m161_elf_writer.specs.Labels.{label_names}
use Rattle.m161_elf_writer.proofs.LabelTable.{drop_some, get_map, name_more}
use Rattle.m161_elf_writer.proofs.labels.push_names.Goals as goal

pub loop-name-preserved : goal.loop-name-preserved
loop-name-preserved c =
    let labels = symbols_seen c.args.symbols.now in
    let i = c.loop-name.i in
    let label = symbol_seen (c.in-Some.name.now, c.in-Some.field-0-1.now) in
    let found : slice_get labels i ≡ Some label =
    get_map symbol_seen c.args.symbols.now.entries i
    (c.in-Some.name.now, c.in-Some.field-0-1.now) (sym c.in-Some.ensures.entry) in
    let split : drop i labels ≡ label ∷ drop (i + 1) labels =
    drop_some labels i (i + 1) label found (omega arith) in
    name_more c.loop-name.file.items c.push-in-Some.new.self.items _ label (drop (i + 1) labels)
    (c.in_ok-push-2.ensures.items
    ∙ ap (λ bytes. bytes ++ 0 ∷ [])
    (c.in_ok-extend_from_slice.ensures.items
    ∙ ap (λ bytes. c.loop-name.file.items ++ bytes) c.as_bytes.ensures.value))
    (ap (λ left. c.loop-name.file.items ++ label_names left) (sym split) ∙ c.loop-name.invariant)
