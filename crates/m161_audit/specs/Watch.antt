use Rattle.std.specs.Prelude.{◌≡◌, ℕ, ◌+◌, ◌%◌, ◌<◌, Bool, true, not, nat_lt, nat_le, ◌==◌, ◌&&◌, ◌||◌, List, slice_get, Some}
use Rattle.m161_audit.specs.declared.watch.Watch.{Watch}

-- Which watches are bad.

-- a physical address is that of a word of RAM
abbrev pub is_word : ℕ → ℕ → Bool
is_word ram at = (at % 4 == 0) && nat_le (at + 4) ram

-- an identifier or a page that doesn't exist, a word that isn't in RAM, or one word for both
abbrev pub is_bad : ℕ → Watch → Bool
is_bad ram w =
    nat_lt 63 w.id || nat_lt 0xfffff w.page || not (is_word ram w.pte) || not (is_word ram w.done)
    || (w.pte == w.done)

-- watch k is bad
abbrev pub IsBad : ℕ → List Watch → ℕ → Type 0
IsBad ram watches k = (w : Watch) × (slice_get watches k ≡ Some w) × (is_bad ram w ≡ true)

-- the first k watches aren't bad
abbrev pub AreGood : ℕ → List Watch → ℕ → Type 0
AreGood ram watches k = (j : ℕ) → j < k → IsBad ram watches j → ⊥
