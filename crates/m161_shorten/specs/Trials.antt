use Rattle.std.specs.Prelude.{ℕ, ◌+◌, ◌==◌, if◌then◌else◌, List, [], ◌∷◌, ◌++◌, take, drop}
use Rattle.m161_machine.specs.declared.event.Event.{Event}
use Rattle.m161_shorten.specs.Blocks.{Block, Steps, Other, blocks, events_in, steps}

-- The lists in which one block is joined with the next one of its processor.

-- the block is n Steps of p, with these events before it, and these between it and the blocks bs; the
-- next Steps of p come to it, or it goes to them; none where a Key, a Done or the end comes first
abbrev pub joins : List Event → ℕ → ℕ → List Event → List Block → List (List Event)
joins before p n between [] = []
joins before p n between (Other e ∷ bs) = []
joins before p n between (Steps q m ∷ bs) =
    if p == q then
    (before ++ steps p (n + m) ++ between ++ events_in bs)
    ∷ (before ++ between ++ steps p (n + m) ++ events_in bs) ∷ []
    else joins before p n (between ++ steps q m) bs

-- the block is the first of these; a Key or a Done isn't joined
abbrev pub joins_first : List Event → List Block → List (List Event)
joins_first before [] = []
joins_first before (Other e ∷ bs) = []
joins_first before (Steps p n ∷ bs) = joins before p n [] bs

-- the trials at block i, from 0: none, or two
abbrev pub trials : ℕ → List Event → List (List Event)
trials i es = joins_first (events_in (take i (blocks es))) (drop i (blocks es))
