use Rattle.std.specs.Prelude.{ℕ, ◌*◌, ◌/◌, true, false, if◌then◌else◌, length, Option, None, Some, option_and_then, option_map}
use Rattle.m161_cpu.specs.declared.uses.Via.{Via}
use Rattle.m161_cpu.specs.Fetch.{fetched_word}
use Rattle.m161_cpu.specs.Scene.{Scene, around, scene}
use Rattle.m161_cpu.specs.Uses.{fetches, reference_of_step}
use Rattle.m161_machine.specs.State.{State, processor_at}
use Rattle.m161_machine.specs.Uses.{uses_in}
use Rattle.m161_moves.specs.declared.run.Access.{Access}
use Rattle.m161_moves.specs.declared.run.StepSeen.{StepSeen}
use Rattle.m161_trace.specs.Loads.{loads_from, word_around}

-- What moves see of the next Step of processor p, told by the state before it alone. The law
-- `SeenIsMade` says that it is what the Step's outcome tells.

abbrev pub scene_in : ℕ → State → Scene
scene_in p s =
    scene (processor_at p s.processors) (around p s.memory s.board s.links s.conf.strict)

-- The word that it fetches: none if it is idle, takes an interrupt, or traps at its fetch.
unfoldable pub fetched_next : ℕ → State → Option ℕ
fetched_next p s =
    if fetches (scene_in p s)
    then fetched_word s.memory (processor_at p s.processors).pc (processor_at p s.processors)
    else None

-- Its load or store.

-- The word of RAM that it loads from, by the reference of its instruction: a load whose address has a
-- translation, to a word in RAM, doesn't trap.
unfoldable pub loaded_next : ℕ → State → Option ℕ
loaded_next p s =
    option_and_then (word_around (length s.memory))
    (option_and_then (loads_from (processor_at p s.processors)) (reference_of_step (scene_in p s)))

-- the virtual address of a word that a row translated
abbrev pub virtual_word : Option Via → Option ℕ
virtual_word via = option_map (λ (v : Via). v.address / 4 * 4) via

-- by the word that it stores to, or else the one that it loads
abbrev pub accessed : Option ℕ → Option ℕ → Option ℕ → Option Access
accessed (Some stored) load mapped = Some (record { is_store = true; word = stored; mapped = mapped })
accessed None (Some load) mapped = Some (record { is_store = false; word = load; mapped = mapped })
accessed None None mapped = None

-- a Step that traps stores nothing
abbrev pub access_of : ℕ → State → Option Access
access_of p s =
    accessed (uses_in p s).stored (loaded_next p s) (virtual_word (uses_in p s).access)

-- The Step: the address of the word that it fetches, if it fetches one, and its access.
unfoldable pub step_seen : ℕ → State → StepSeen
step_seen p s = record {
  processor = p;
  fetched = option_map (λ word. (processor_at p s.processors).pc) (fetched_next p s);
  access = access_of p s;
}
