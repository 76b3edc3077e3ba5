use Rattle.std.proofs.Common.{◌≡◌, ◌-◌, ◌++◌, length, drop}
use Rattle.m161_asm.specs.Seen.{symbols_seen}
use Rattle.m161_elf_writer.specs.Labels.{label_names, strtab}
use Rattle.m161_elf_writer.proofs.labels.push_names.Given as goal

-- the names that are left
abbrev pub invariant-loop-name : goal.invariant-loop-name
invariant-loop-name l =
    l.file.items ++ label_names (drop l.i (symbols_seen l.symbols))
    ≡ l.fn.file.items ++ strtab (symbols_seen l.symbols)

abbrev pub decreases-loop-name : goal.decreases-loop-name
decreases-loop-name l = length l.symbols.entries - l.i
