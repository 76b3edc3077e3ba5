use Rattle.std.proofs.Common.{◌≡◌, ℕ, ◌<◌, length, Bool, true, false, [], ◌∷◌, ◌++◌, Result, Ok, Err, arith}
use Rattle.std.specs.Prelude.{nat_lt, if◌then◌else◌}
use Rattle.std.proofs.lemmas.Bool.Decides.{nat_tests}
use Rattle.m161_bus.specs.declared.console.KeyFull.{KeyFull}
use Rattle.m161_bus.specs.Board.{BoardState, board_key, with_console}
use Rattle.m161_bus.specs.Outcome.{LeavesUnlessRefused}
use Rattle.m161_machine.specs.Restore.{with_waiting}

-- Parts of a state that are made anew.

-- a byte that is typed
abbrev typed : ℕ → BoardState → BoardState
typed byte b = with_waiting (b.console.waiting ++ byte ∷ []) b

by_test : (b new : BoardState) (byte : ℕ) (result : Result (Unit {0}) KeyFull) (test : Bool) → test ≡ true →
    LeavesUnlessRefused
    (with_console (if test then Ok (record b.console { waiting = b.console.waiting ++ byte ∷ [] }) else Err (record {})) b)
    b result new →
    new ≡ typed byte b
by_test b new byte (Ok done) true is h = h
by_test b new byte (Err e) true is h = absurd h
by_test b new byte result false is h = absurd (let bad : false ≡ true = is in cc)

pub typed_byte : (b new : BoardState) (byte : ℕ) (result : Result (Unit {0}) KeyFull) → length b.console.waiting < 256 →
    LeavesUnlessRefused (board_key byte b) b result new → new ≡ typed byte b
typed_byte b new byte result few h =
    let test : nat_lt (length b.console.waiting) 256 ≡ true = grind (arith, nat_tests, few) in
    by_test b new byte result (nat_lt (length b.console.waiting) 256) test h

-- a console in which no byte waits is one in which none of the bytes does
pub none_waits : (b : BoardState) → b.console.waiting ≡ [] → b ≡ with_waiting [] b
none_waits b none = λ i. with_waiting (none i) b
