use Rattle.std.specs.Prelude.{ℕ, ◌-◌, List, length, drop, map}
use Rattle.m161_machine.specs.declared.event.Entry.{Entry}
use Rattle.m161_steplog.specs.Text.{entry_text}
use Rattle.m161_text.specs.Lines.{text_of}

-- The log: a line for each of its last n entries, the oldest of them first.

-- the last n elements of a list, or all if it has fewer
abbrev pub last_of : {X : Type 0} → ℕ → List X → List X
last_of n xs = drop (length xs - n) xs

unfoldable pub show_log_text : ℕ → List Entry → List ℕ
show_log_text n log = text_of (map entry_text (last_of n log))
