use Rattle.std.proofs.Common.{◌≡◌, refl, ℕ, Bool, length}
use Rattle.std.specs.Prelude.{◌||◌, ◌&&◌, not, nat_le, nat_lt, is_some, if◌then◌else◌}
use Rattle.std.specs.List.{list_any, range_with_len}
use Rattle.m161_machine.specs.Resting.{rests, ticks}
use Rattle.m161_machine.specs.State.{State}
use Rattle.m161_machine.specs.Uses.{uses_in}
use Rattle.m161_drive.specs.Ready.{is_asleep}
use Rattle.m161_judge.specs.Verdict.{is_stuck}
use Rattle.m161_alike.specs.Reads.{no_reads, reads_in}
use Rattle.m161_states.specs.System.{fresh}
use Rattle.m161_states.specs.Verdicts.{reads_next}

-- A state as before any event shows the same.

fresh_rests : (p : ℕ) (s : State) → rests p (fresh s) ≡ rests p s
unfolding rests
fresh_rests p s = refl

fresh_ticks : (p : ℕ) (s : State) → ticks p (fresh s) ≡ ticks p s
unfolding ticks
fresh_ticks p s = refl

pub fresh_uses : (p : ℕ) (s : State) → uses_in p (fresh s) ≡ uses_in p s
unfolding uses_in
fresh_uses p s = refl

fresh_reads : (p : ℕ) (s : State) → reads_in p (fresh s) ≡ reads_in p s
unfolding reads_in
fresh_reads p s = refl

pub fresh_next : (p : ℕ) (s : State) → reads_next p (fresh s) ≡ reads_next p s
fresh_next p s = let reads = fresh_reads p s in λ i. if s.board.off then no_reads else reads i

pub fresh_asleep : (s : State) → is_asleep (fresh s) ≡ is_asleep s
fresh_asleep s =
    λ i. not (list_any (λ p. nat_lt p (length s.processors) && not (fresh_rests p s i)) (range_with_len 0 (length s.processors))
    || list_any (λ p. nat_lt p (length s.processors) && fresh_ticks p s i) (range_with_len 0 (length s.processors)))

pub fresh_stuck : (keys_left : Bool) (s : State) → is_stuck keys_left (fresh s) ≡ is_stuck keys_left s
fresh_stuck keys_left s =
    let asleep = fresh_asleep s in
    λ i. not s.board.off && not (is_some s.board.console.latch)
    && (not keys_left || nat_le 256 (length s.board.console.waiting)) && asleep i
