use Rattle.std.specs.Prelude.{◌≡◌, ℕ, Bool, true, List, length, take, drop}
use Rattle.m161_machine.specs.declared.event.Entry.{Entry}
use Rattle.m161_machine.specs.History.{Leads, events_of}
use Rattle.m161_machine.specs.State.{State}
use Rattle.m161_machine.specs.Stretch.{ArePlain}

-- so many of the planned Steps were made from s, and led to t: their entries are in their places, and
-- in a stretch each was plain
pub record IsUnderWay (stretch : Bool) (places : List Entry) (s : State) (made : ℕ) (kept : List Entry) (t : State) : Type 0 where
  pub leads : Leads s (take made kept) t
  pub events_are : events_of (take made kept) ≡ events_of (take made places)
  pub behind_is : drop made kept ≡ drop made places
  pub length_is : length kept ≡ length places
  pub are_plain : stretch ≡ true → ArePlain s (take made kept) t
