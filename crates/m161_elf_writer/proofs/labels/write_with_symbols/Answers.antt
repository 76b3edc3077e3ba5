use Rattle.std.proofs.Common.{◌≤◌, ◌++◌, length, ap, ◌∙◌, arith}
use Rattle.m161_asm.specs.Seen.{symbols_seen}
use Rattle.m161_asm.specs.Segments.{segments_seen}
use Rattle.m161_elf_writer.proofs.LabelTable.{assembled, longer}
use Rattle.m161_elf_writer.proofs.WrittenFaults.{length-elf_bytes}
use Rattle.m161_elf_writer.proofs.labels.write_with_symbols.Goals as goal

pub returns : goal.returns
returns c =
    assembled c.args.program.now.entry (segments_seen c.args.program.now.segments.items)
    (symbols_seen c.args.program.now.symbols) c.in_ok-file.file.items c.push_symbols.new.file.items
    c.push_names.new.file.items c.extend_from_slice.new.self.items c.push_padding.new.file.items
    c.push_section_headers.new.file.items c.set_sections.new.file.items c.len-symbols.result
    c.len-names.result c.len-sections.result c.len-headers.result
    c.in_ok-file.ensures c.in_ok-push_symbols.ensures c.in_ok-push_names.ensures
    (c.in_ok-extend_from_slice.ensures.items
    ∙ ap (λ bytes. c.push_names.new.file.items ++ bytes) c.as_bytes.ensures.value)
    c.in_ok-push_padding.ensures c.in_ok-push_section_headers.ensures
    (omega (arith, c.len-symbols.ensures)) (omega (arith, c.len-names.ensures))
    (omega (arith, c.len-sections.ensures)) (omega (arith, c.len-headers.ensures))
    c.set_sections.ensures

pub set_sections-requires : goal.set_sections-requires
set_sections-requires c =
    let first : 52 ≤ length c.in_ok-file.file.items =
    omega (
      arith,
      ap length c.in_ok-file.ensures,
      length-elf_bytes c.args.program.now.entry (segments_seen c.args.program.now.segments.items),
    ) in
    let a : length c.in_ok-file.file.items ≤ length c.push_symbols.new.file.items =
    longer _ _ _ c.in_ok-push_symbols.ensures in
    let b : length c.push_symbols.new.file.items ≤ length c.push_names.new.file.items =
    longer _ _ _ c.in_ok-push_names.ensures in
    let d : length c.push_names.new.file.items ≤ length c.extend_from_slice.new.self.items =
    longer _ _ _ c.in_ok-extend_from_slice.ensures.items in
    let e : length c.extend_from_slice.new.self.items ≤ length c.push_padding.new.file.items =
    longer _ _ _ c.in_ok-push_padding.ensures in
    let f : length c.push_padding.new.file.items
    ≤ length c.push_section_headers.new.file.items =
    longer _ _ _ c.in_ok-push_section_headers.ensures in
    omega arith

pub push_section_headers-requires : goal.push_section_headers-requires
push_section_headers-requires c =
    let a : length c.in_ok-file.file.items ≤ length c.push_symbols.new.file.items =
    longer _ _ _ c.in_ok-push_symbols.ensures in
    let b : length c.push_symbols.new.file.items ≤ length c.push_names.new.file.items =
    longer _ _ _ c.in_ok-push_names.ensures in
    record {
      symbols = omega (arith, c.len-symbols.ensures, c.len-names.ensures);
      names = omega (arith, c.len-names.ensures, c.len-sections.ensures);
    }
