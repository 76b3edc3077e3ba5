use Rattle.std.specs.Prelude.{ℕ, List, Option}
use Rattle.m161_order.specs.declared.order.Order.{Order}

-- Policies.

-- a policy
pub record Rules : Type 0 where
  pub order : Order
  -- a byte is sent once so many events were accepted after the one that filled the latch
  pub transfer : ℕ
  -- a key comes once so many events were accepted after the last key
  pub gap : Option ℕ
  pub keys : List ℕ
