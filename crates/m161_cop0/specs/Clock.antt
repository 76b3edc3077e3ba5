use Rattle.std.specs.Prelude.{◌≡◌, ◌≢◌, ℕ, zero, suc, ◌+◌, ◌-◌, ◌%◌, ◌^◌, ◌<◌, ◌≤◌, Bool, not, ◌==◌, ◌&&◌, ◌||◌, if◌then◌else◌}
use Rattle.m161_cop0.specs.Control.{Control}

-- Random and the timer at the end of a Step. Kane, MIPS RISC Architecture, "System control
-- coprocessor"; the timer is this project's own rule.

-- Count's next value
abbrev pub next_count : Control → ℕ
next_count c = (c.count + 1) % 2 ^ 32

-- Count reaches a Compare that isn't zero
abbrev pub is_due : Control → Bool
is_due c = (next_count c == c.compare) && not (c.compare == 0)

-- one tick: Random falls, from 8 back to 63; Count rises, or becomes zero if the timer is due
unfoldable pub after_tick : Control → Control
after_tick c = record c {
  age = c.age + 1;
  random = if c.random == 8 then 63 else c.random - 1;
  count = if is_due c then 0 else next_count c;
  timer = c.timer || is_due c;
}

-- n ticks and nothing else
abbrev pub after_ticks : ℕ → Control → Control
after_ticks zero c = c
after_ticks (suc n) c = after_tick (after_ticks n c)

-- the age that the code caches: that of the tick that brings Count to Compare, or 0 if Compare is
-- zero or the age would be at least 2^64
abbrev pub IsFire : ℕ → ℕ → ℕ → ℕ → Type 0
IsFire age offset compare fire =
    (compare ≡ 0 → fire ≡ 0)
    × (compare ≢ 0 → fire ≢ 0
    → (age < fire) × (fire ≤ age + 2 ^ 32) × ((fire + offset) % 2 ^ 32 ≡ compare))
    × (compare ≢ 0 → fire ≡ 0
    → 2 ^ 64 ≤ age + 1 + (compare + (2 ^ 32 - 1) - (age + offset) % 2 ^ 32) % 2 ^ 32)
