use Rattle.std.specs.Prelude.{ℕ, Bool, true, false, ◌==◌, if◌then◌else◌, Option, None}
use Rattle.m161_cop0.specs.Registers.{number_of_exception}
use Rattle.m161_cpu.specs.declared.processor.Outcome.{Outcome}
use Rattle.m161_cpu.specs.declared.processor.Outcome.TheVariants as outcomes
use Rattle.m161_cpu.specs.Fetch.{fetched_word}
use Rattle.m161_machine.specs.State.{State, processor_at}

-- What a Step fetched.

-- a Step with this outcome fetched nothing: it was idle, or took an interrupt, whose code is 0
abbrev pub fetches_none : Outcome → Bool
fetches_none outcomes.Ran = false
fetches_none (outcomes.Trapped code vector) = number_of_exception code == 0
fetches_none outcomes.Idle = true
fetches_none outcomes.PoweredOff = false
fetches_none (outcomes.Conflict i j) = false
fetches_none outcomes.Taken = false

-- the word that the Step of processor p fetched, if it could
abbrev pub fetched : ℕ → State → Outcome → Option ℕ
fetched p s o =
    if fetches_none o then None
    else fetched_word s.memory (processor_at p s.processors).pc (processor_at p s.processors)
