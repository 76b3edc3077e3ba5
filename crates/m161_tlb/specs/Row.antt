use Rattle.std.specs.Prelude.{ℕ, ◌≡◌, ◌+◌, ◌*◌, ◌/◌, ◌%◌, ◌^◌, ◌<◌, Bool, ◌==◌, ◌&&◌, ◌||◌, if◌then◌else◌}
use Rattle.m161_tlb.specs.declared.row.Row.{Row}

-- A row and its words in EntryHi and EntryLo. Kane, MIPS RISC Architecture, "TLB entries".

-- a bit of a word is set
abbrev pub is_set : ℕ → ℕ → Bool
is_set word place = word / 2 ^ place % 2 == 1

-- a word with that bit, or zero
abbrev pub flag_of : Bool → ℕ → ℕ
flag_of set place = if set then 2 ^ place else 0

-- a row's word in EntryHi
abbrev pub hi_word : Row → ℕ
hi_word row = row.page * 2 ^ 12 + row.id * 2 ^ 6

-- a row's word in EntryLo
abbrev pub lo_word : Row → ℕ
lo_word row =
    row.frame * 2 ^ 12 + flag_of row.n 11 + flag_of row.d 10 + flag_of row.v 9 + flag_of row.g 8

-- the row of the words in EntryHi and EntryLo
abbrev pub row_of_words : ℕ → ℕ → Row
row_of_words hi lo = record {
  page = hi / 2 ^ 12;
  id = hi / 2 ^ 6 % 2 ^ 6;
  frame = lo / 2 ^ 12;
  n = is_set lo 11;
  d = is_set lo 10;
  v = is_set lo 9;
  g = is_set lo 8;
}

-- the row of a row's words is that row
abbrev pub RowComesBack : Type 0
RowComesBack =
    (row : Row) → row.page < 2 ^ 20 → row.id < 2 ^ 6 → row.frame < 2 ^ 20
    → row_of_words (hi_word row) (lo_word row) ≡ row

-- words whose unused bits are zero are the words of their row
abbrev pub WordsComeBack : Type 0
WordsComeBack =
    (hi lo : ℕ) → hi < 2 ^ 32 → lo < 2 ^ 32 → hi % 2 ^ 6 ≡ 0 → lo % 2 ^ 8 ≡ 0
    → (hi_word (row_of_words hi lo) ≡ hi) × (lo_word (row_of_words hi lo) ≡ lo)

-- a row translates a page of an address space
abbrev pub matches : ℕ → ℕ → Row → Bool
matches page id row = (row.page == page) && (row.g || (row.id == id))

-- two rows overlap: they translate a page of one address space. V isn't looked at
abbrev pub overlaps : Row → Row → Bool
overlaps a b = (a.page == b.page) && (a.g || b.g || (a.id == b.id))
