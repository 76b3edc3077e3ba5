use Rattle.std.specs.Prelude.{◌≡◌, ◌⊎◌, ℕ, zero, suc, ◌+◌, ◌*◌, ◌^◌, ◌≤◌, ◌<◌, Bool, false, ◌&&◌, ◌||◌, nat_lt, List, [], ◌∷◌, drop}
use Rattle.m161_asm.specs.declared.ground.AddressRun.{AddressRun}
use Rattle.m161_asm.specs.declared.ground.Ground.{Ground}

-- The addresses that the lines so far have filled, as the code stores them: the runs of addresses
-- between two `.org`, by address, and the run of the next line.

-- the addresses from start up to, but not including, end, and n words at an address, have an
-- address in common
abbrev pub meet : ℕ → ℕ → ℕ → ℕ → Bool
meet start end a n = nat_lt start end && nat_lt 0 n && nat_lt a end && nat_lt start (a + 4 * n)

abbrev pub meets : List AddressRun → ℕ → ℕ → Bool
meets [] a n = false
meets (r ∷ rs) a n = meet r.start r.end a n || meets rs a n

-- runs that begin at `low` or above, none empty, each after the one before
abbrev pub InOrder : ℕ → List AddressRun → Type 0
InOrder low [] = Unit {0}
InOrder low (r ∷ rs) = (low ≤ r.start) × (r.start < r.end) × InOrder r.end rs

-- the first k runs end by an address, and the one after them ends above it
abbrev pub Splits : ℕ → ℕ → List AddressRun → Type 0
Splits start zero [] = Unit {0}
Splits start zero (r ∷ rs) = start < r.end
Splits start (suc k) [] = ⊥
Splits start (suc k) (r ∷ rs) = (r.end ≤ start) × Splits start k rs

-- the address at which the first of runs begins, or the end of all addresses
abbrev pub limit_of : List AddressRun → ℕ
limit_of [] = 2 ^ 32
limit_of (r ∷ rs) = r.start

-- the next line is at this address
pub record IsOrdered (g : Ground) (address : ℕ) : Type 0 where
  pub order : InOrder 0 g.runs.items
  pub split : Splits g.start g.next g.runs.items
  pub limit : g.limit ≡ limit_of (drop g.next g.runs.items)
  pub begun : g.start ≤ address
  pub clear : (g.start ≡ address) ⊎ (address ≤ g.limit)

-- these addresses are filled, and no others
abbrev pub HasFilled : Ground → ℕ → (ℕ → ℕ → Bool) → Type 0
HasFilled g address filled =
    (a n : ℕ) → filled a n ≡ (meet g.start address a n || meets g.runs.items a n)
