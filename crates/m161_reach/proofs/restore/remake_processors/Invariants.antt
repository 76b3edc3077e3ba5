use Rattle.std.proofs.Common.{◌≡◌, ℕ, ◌<◌, ◌≤◌, length}
use Rattle.std.specs.Prelude.{All}
use Rattle.m161_machine.specs.State.{State, processor_at}
use Rattle.m161_alike.specs.declared.known.Known.{Known}
use Rattle.m161_alike.specs.View.{known_of}
use Rattle.m161_alike.specs.Words.{HasSizes}
use Rattle.m161_states.specs.Shape.{IsShaped}
use Rattle.m161_reach.specs.helpers.Restore.{AreKeptFrom, AreWordsFrom, IsAsIn, with_processors}
use Rattle.m161_reach.proofs.restore.remake_processors.Given as goal

-- the first processors are made anew, and the others stay
abbrev pub invariant-loop-p : goal.invariant-loop-p
invariant-loop-p g l =
    let before = l.fn.core.state in
    (length l.core.state.processors ≡ length before.processors)
    × (l.core.state ≡ with_processors l.core.state.processors before)
    × ((k : ℕ) → l.p ≤ k → processor_at k l.core.state.processors ≡ processor_at k before.processors)
    × ((known : Known) (s : State) → IsShaped s → All HasSizes before.processors → length s.processors ≡ length before.processors →
    AreKeptFrom known before l.kept → AreWordsFrom known s l.words →
    (k : ℕ) → k < l.p → IsAsIn (known_of known k) (processor_at k s.processors) (processor_at k l.core.state.processors))
