use Rattle.std.specs.Prelude.{◌≡◌, ℕ, ◌+◌, min, List, [], ◌∷◌, ◌++◌, length}
use Rattle.circular_buffer.specs.Buffer.{Buffer}
use Rattle.m161_machine.specs.declared.event.Event.TheVariants.{Step}
use Rattle.m161_machine.specs.declared.event.Entry.{Entry}
use Rattle.m161_machine.specs.State.{State}
use Rattle.m161_machine.specs.History.{Leads}

-- The window of the log, as the code keeps it.

-- the first entry is of a Step of this processor
abbrev pub BeginsWithStep : ℕ → List Entry → Type 0
BeginsWithStep p [] = ⊥
BeginsWithStep p (e ∷ es) = e.event ≡ Step p

-- base and window after entries were appended: the window has the last ones, and the events of the
-- lost ones were made on the base
pub record Slid (base : State) (window : Buffer Entry) (entries : List Entry) (base' : State) (window' : Buffer Entry) : Type 0 where
  pub lost : List Entry
  pub items_are : window.items ++ entries ≡ lost ++ window'.items
  pub base_is : Leads base lost base'
  pub length_is : length window'.items ≡ min window.capacity (length window.items + length entries)
  pub capacity_is : window'.capacity ≡ window.capacity
