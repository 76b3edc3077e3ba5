use Rattle.std.specs.Prelude.{◌≡◌, ℕ, Ok}
use Rattle.m161_cpu.specs.declared.processor.Outcome.{Outcome}
use Rattle.m161_cpu.specs.declared.uses.Uses.{Uses}
use Rattle.m161_cpu.specs.Scene.{around, scene}
use Rattle.m161_cpu.specs.Uses.{uses_of}
use Rattle.m161_machine.specs.declared.event.Event.TheVariants.{Step}
use Rattle.m161_machine.specs.State.{State, next, processor_at}

-- What the next Step of a processor uses.

-- the rows of the TLB through which a Step of processor p gets physical addresses, and the word of
-- RAM that it stores to, if it is the next event
unfoldable pub uses_in : ℕ → State → Uses
uses_in p s =
    uses_of
    (scene (processor_at p s.processors) (around p s.memory s.board s.links s.conf.strict))

-- a Step of processor p is accepted, and leads to this state
abbrev pub MakesStep : State → ℕ → State → Type 0
MakesStep s p t = (o : Outcome) × (next s (Step p) ≡ Ok (o, t))
