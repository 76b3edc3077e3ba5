use Rattle.std.specs.Prelude.{◌≡◌, ℕ, List, [], Option, None, Some}
use Rattle.m161_audit.specs.declared.watch.Watch.{Watch}
use Rattle.m161_audit.specs.WatchText.{AreWatches}
use Rattle.m161_text.specs.Lines.{lines_of}
use Rattle.s161_base.specs.declared.fault.Fault.{Fault}
use Rattle.s161_search.specs.Audits.{IsWatchesFault}

-- The text of the watches, if there is one.

-- the watches are those of the text
abbrev pub AreWatchesIn : Option (List ℕ) → List Watch → Type 0
AreWatchesIn None watches = watches ≡ []
AreWatchesIn (Some text) watches = AreWatches (lines_of text) watches

-- the text has a fault
abbrev pub IsFaultIn : Option (List ℕ) → Fault → Type 0
IsFaultIn None fault = ⊥
IsFaultIn (Some text) fault = IsWatchesFault text fault
