use Rattle.std.specs.Prelude.{ℕ, ◌+◌, ◌-◌, Bool, not, nat_lt, ◌&&◌, ◌||◌, if◌then◌else◌, List, ◌++◌, length, filter, find, Option, None, Some, is_some}
use Rattle.std.specs.List.{list_any, range_with_len}
use Rattle.m161_machine.specs.State.{State}
use Rattle.m161_machine.specs.Resting.{rests, ticks}

-- What the processors of a state wait for.

-- a processor that exists, and whose Step isn't idle
abbrev pub is_ready : State → ℕ → Bool
is_ready s p = nat_lt p (length s.processors) && not (rests p s)

-- a processor that exists, and rests until its timer's interrupt
abbrev pub is_ticking : State → ℕ → Bool
is_ticking s p = nat_lt p (length s.processors) && ticks p s

-- the processors of a state that pass a test, in ascending order
abbrev pub those : (ℕ → Bool) → State → List ℕ
those test s = filter test (range_with_len 0 (length s.processors))

abbrev pub ready : State → List ℕ
ready s = those (is_ready s) s

abbrev pub some_ready : State → Bool
some_ready s = list_any (is_ready s) (range_with_len 0 (length s.processors))

abbrev pub some_ticking : State → Bool
some_ticking s = list_any (is_ticking s) (range_with_len 0 (length s.processors))

-- the console's latch holds a byte
abbrev pub is_sending : State → Bool
is_sending s = is_some s.board.console.latch

-- no Step of any processor does anything, now or later, without an input of a device
abbrev pub is_asleep : State → Bool
is_asleep s = not (some_ready s || some_ticking s)

-- n processors in cyclic order, from processor a on
abbrev pub cyclic : ℕ → ℕ → List ℕ
cyclic a n = range_with_len a (n - a) ++ range_with_len 0 a

-- the one behind the last in cyclic order, which is n for 0; 0 if there is no last
abbrev pub place_behind : Option ℕ → ℕ → ℕ
place_behind None n = 0
place_behind (Some p) n = if nat_lt p n then p + 1 else 0

-- the first processor behind the last, in cyclic order, that passes a test; that is the last itself
-- if no other does
abbrev pub next_behind : (ℕ → Bool) → Option ℕ → State → Option ℕ
next_behind test last s =
    find test (cyclic (place_behind last (length s.processors)) (length s.processors))
