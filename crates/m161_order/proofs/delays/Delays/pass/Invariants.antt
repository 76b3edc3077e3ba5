use Rattle.std.proofs.Common.{◌≡◌, ◌≤◌, ℕ, length, slice_index_or, take}
use Rattle.m161_order.specs.Delays.{behind}
use Rattle.m161_order.proofs.delays.Delays.pass.Given as goal

-- the numbers that are left of the first places stand in the first ones; the places from here on are
-- as they were
abbrev pub invariant-loop-place : goal.invariant-loop-place
invariant-loop-place l = (take l.left l.self.numbers ≡ behind l.choices (take l.place l.fn.self.numbers))
    × (l.left ≤ l.place) × (length l.self.numbers ≡ 64)
    × ((k : ℕ) → l.place ≤ k → slice_index_or l.self.numbers k 0 ≡ slice_index_or l.fn.self.numbers k 0)
