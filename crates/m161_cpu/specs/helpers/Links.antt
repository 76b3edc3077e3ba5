use Rattle.std.specs.Prelude.{◌≡◌, ℕ, ◌<◌, length, slice_index_or, None}
use Rattle.std.specs.Int.{bit_at}
use Rattle.m161_cpu.specs.Links.{LinkState, unless_to}

-- How the code finds the links that a store ends.

-- the links before a store at an address, and those after it as far as no bit is left in a number
pub record IsWalked (at : ℕ) (before : LinkState) (left : ℕ) (links : LinkState) : Type 0 where
  pub unit : links.unit ≡ before.unit
  pub number : length links.live ≡ 32
  pub past : (c : ℕ) → c < 32 → bit_at left c ≡ 0 →
      slice_index_or links.live c None
      ≡ unless_to before.unit at (slice_index_or before.live c None)
  pub rest : (c : ℕ) → c < 32 → bit_at left c ≡ 1 →
      slice_index_or links.live c None ≡ slice_index_or before.live c None
