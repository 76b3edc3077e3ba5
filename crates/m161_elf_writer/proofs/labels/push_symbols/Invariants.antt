use Rattle.std.proofs.Common.{◌≡◌, ◌-◌, ◌++◌, length, drop}
use Rattle.m161_asm.specs.Seen.{symbols_seen}
use Rattle.m161_elf_writer.specs.Labels.{symbol_entries, symtab}
use Rattle.m161_elf_writer.proofs.labels.push_symbols.Given as goal

-- the symbols that are left
abbrev pub invariant-loop-name : goal.invariant-loop-name
invariant-loop-name l =
    l.file.items ++ symbol_entries l.place (drop l.i (symbols_seen l.symbols))
    ≡ l.fn.file.items ++ symtab (symbols_seen l.symbols)

abbrev pub decreases-loop-name : goal.decreases-loop-name
decreases-loop-name l = length l.symbols.entries - l.i
