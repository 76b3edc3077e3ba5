use Rattle.std.specs.Prelude.{find}
use Rattle.std.proofs.Common.{◌≡◌}
use Rattle.m161_elf.specs.Symbols.{e_shnum, is_symbol_table, section}
use Rattle.m161_elf.proofs.Rest.{rest}
use Rattle.m161_elf.proofs.sections.first_symbols.Given as goal

-- the first one is among the sections that are left
abbrev pub invariant-loop-i : goal.invariant-loop-i
invariant-loop-i l =
    find is_symbol_table (rest (section l.file) l.i (e_shnum l.file))
    ≡ find is_symbol_table (rest (section l.file) 0 (e_shnum l.file))
