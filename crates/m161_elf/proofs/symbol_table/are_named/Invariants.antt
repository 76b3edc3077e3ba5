use Rattle.std.proofs.Common.{◌≡◌}
use Rattle.std.specs.List.{list_all}
use Rattle.m161_elf.specs.Symbols.{count_of, entry, is_named, strings_of}
use Rattle.m161_elf.proofs.Rest.{rest}
use Rattle.m161_elf.proofs.symbol_table.are_named.Given as goal

-- the entries that are left decide
abbrev pub invariant-loop-i : goal.invariant-loop-i
invariant-loop-i l =
    list_all (is_named (strings_of l.file l.table)) (rest (entry l.file l.table) l.i (count_of l.table))
    ≡ list_all (is_named (strings_of l.file l.table)) (rest (entry l.file l.table) 0 (count_of l.table))
