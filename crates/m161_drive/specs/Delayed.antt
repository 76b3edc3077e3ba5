use Rattle.std.specs.Prelude.{ℕ, ◌-◌, ◌==◌, if◌then◌else◌, List, length, min, filter, slice_index}
use Rattle.m161_machine.specs.State.{State}
use Rattle.m161_drive.specs.declared.turns.Turns.{Turns}
use Rattle.m161_drive.specs.Ready.{cyclic, is_ready}

-- The order by turns with delays (delay-bounded scheduling; Emmi, Qadeer and Rakamarić 2011): where
-- delays come at a choice, as many ready processors are passed over.

-- turns with delays; each that is left says how many choices further on it comes
pub record DelayState : Type 0 where
  pub turns : Turns
  pub left : List ℕ

-- the ready processors in cyclic order, from processor p on
abbrev pub ready_from : ℕ → State → List ℕ
ready_from p s = filter (is_ready s) (cyclic p (length s.processors))

-- the one of them that is n behind the first, or the last if there are fewer
abbrev pub passed : ℕ → ℕ → State → ℕ
passed n p s = slice_index (ready_from p s) (min n (length (ready_from p s) - 1))

-- the Step is one of q, where the turns choose p: if that is another one, a turn of it begins
abbrev pub turned : ℕ → ℕ → Turns → Turns
turned p q t = if p == q then t else record t { made = 1 }
