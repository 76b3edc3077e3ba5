use Rattle.std.specs.Prelude.{◌≡◌, ℕ, ◌+◌, Bool, true, nat_le, nat_eq, ◌&&◌, if◌then◌else◌, List, length, Option, None, Some}
use Rattle.std.specs.List.{list_all, list_any}
use Rattle.m161_elf.specs.declared.symbol_table.Symbol.{Symbol}
use Rattle.m161_elf.specs.declared.symbol_table.SymbolTable.{SymbolTable}
use Rattle.m161_elf.specs.Symbols.{before_zero, entry, has_entries, has_strings, is_listed, is_shown, is_visible, strings_of, symbol_of}

-- Parts of a search for symbols.

-- some byte is zero
abbrev pub has_zero : List ℕ → Bool
has_zero = list_any (λ b. nat_eq b 0)

-- the facts about a symbol table that is sound
pub record IsSoundTable (file : List ℕ) (t : SymbolTable) : Type 0 where
  pub entries_are : has_entries file t.entries ≡ true
  pub strings_are : has_strings file t.strings ≡ true

-- the length of a name of which `seen` visible bytes went before, if it is shown
abbrev pub shown_after : ℕ → List ℕ → Option ℕ
shown_after seen names =
    if nat_le 1 (seen + length (before_zero names))
    && nat_le (seen + length (before_zero names)) 255
    && list_all is_visible (before_zero names)
    then Some (seen + length (before_zero names)) else None

-- the length of a name, if it is shown
abbrev pub shown_length : List ℕ → Option ℕ
shown_length names =
    if is_shown (before_zero names) then Some (length (before_zero names)) else None

-- what entry i adds to the symbols
abbrev pub symbol_at : List ℕ → SymbolTable → ℕ → Option Symbol
symbol_at file t i =
    if is_listed (strings_of file t) (entry file t i)
    then Some (symbol_of (strings_of file t) t (entry file t i)) else None
