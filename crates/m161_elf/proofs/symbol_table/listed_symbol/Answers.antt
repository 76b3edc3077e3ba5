use Rattle.m161_elf.specs.Symbols.{count_of, entry, is_named, strings_of}
use Rattle.m161_elf.proofs.Rest.{each}
use Rattle.m161_elf.proofs.symbol_table.listed_symbol.Goals as goal

pub shown_length-requires : goal.shown_length-requires
shown_length-requires c =
    let file = c.args.file.now in
    let t = c.args.table.now in
    rw (c.entry-entry.ensures, c.strings.ensures)
    (each (entry file t) (is_named (strings_of file t)) (count_of t) c.args.i c.requires.named
    c.requires.within)
