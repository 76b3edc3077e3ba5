use Rattle.std.specs.Prelude.{ℕ, ◌+◌, ◌*◌, ◌/◌, nat_le, ◌==◌, true, false, if◌then◌else◌, length, slice_index, Option, None, Some, option_and_then, option_map, Result, Ok, Err}
use Rattle.m161_isa.specs.Instr.{rt_of}
use Rattle.m161_cpu.specs.declared.processor.Outcome.{Outcome}
use Rattle.m161_cpu.specs.declared.processor.Outcome.TheVariants as outcomes
use Rattle.m161_cpu.specs.Processor.{Processor}
use Rattle.m161_cpu.specs.Translation.{is_store}
use Rattle.m161_cpu.specs.Uses.{Reference, reference_in}
use Rattle.m161_cpu.specs.UsesLaw.{address_of}
use Rattle.m161_machine.specs.Fetched.{fetched}
use Rattle.m161_machine.specs.State.{State, processor_at, word_in}
use Rattle.m161_trace.specs.declared.loads.Load.{Load}

-- What the next Step of a processor loads, by the reference to memory of the instruction that it
-- fetches. Its outcome is given.

-- none where there is no physical address, but a trap
abbrev pub physical_if : {Fault : Type 0} → Result ℕ Fault → Option ℕ
physical_if (Ok at) = Some at
physical_if (Err f) = None

-- the physical address that a reference loads from
abbrev pub loads_from : Processor → Reference → Option ℕ
loads_from p r = if is_store r.access then None else physical_if (address_of p r)

-- of the instruction of a word
abbrev pub loads_by : Processor → ℕ → Option ℕ
loads_by p word = option_and_then (loads_from p) (reference_in p word)

-- the physical address of its first byte
unfoldable pub loaded_address : ℕ → State → Outcome → Option ℕ
loaded_address p s o = option_and_then (loads_by (processor_at p s.processors)) (fetched p s o)

-- the word of RAM that a physical address is in, if RAM is so large
abbrev pub word_around : ℕ → ℕ → Option ℕ
word_around size at = if nat_le (at / 4 * 4 + 4) size then Some (at / 4 * 4) else None

-- the word of RAM that the Step loads from
unfoldable pub loaded : ℕ → State → Outcome → Option ℕ
loaded p s o = option_and_then (word_around (length s.memory)) (loaded_address p s o)

-- that a Step with this outcome loaded: one that ran
abbrev pub loaded_by : ℕ → State → Outcome → Option ℕ
loaded_by p s outcomes.Ran = loaded p s outcomes.Ran
loaded_by p s (outcomes.Trapped code vector) = None
loaded_by p s outcomes.Idle = None
loaded_by p s outcomes.PoweredOff = None
loaded_by p s (outcomes.Conflict row other) = None
loaded_by p s outcomes.Taken = None

-- What a line tells of it: the physical address of the word that has the bytes, and that word.

-- of a slot the word that was read, as the register has it after the Step; register 0 has none
abbrev pub word_got : ℕ → Processor → Option ℕ
word_got r p = if r == 0 then None else Some (slice_index p.registers r)

-- of RAM the word before the Step
abbrev pub load_at : ℕ → Option ℕ → Option ℕ → Option Load
load_at at (Some word) got = Some (record { at = at; word = word; in_ram = true })
load_at at None got =
    option_map (λ w. record { at = at; word = w; in_ram = false }) got

-- from a physical address, to a register
abbrev pub load_from : ℕ → State → State → ℕ → ℕ → Option Load
load_from p s t r at =
    load_at (at / 4 * 4) (word_in s.memory (at / 4 * 4)) (word_got r (processor_at p t.processors))

-- by the instruction of a word
abbrev pub load_by : ℕ → State → State → ℕ → Option Load
load_by p s t word =
    option_and_then (load_from p s t (rt_of word)) (loads_by (processor_at p s.processors) word)

-- of the Step of processor p from one state to the other: it has to run
unfoldable pub load_of : ℕ → State → Outcome → State → Option Load
load_of p s outcomes.Ran t = option_and_then (load_by p s t) (fetched p s outcomes.Ran)
load_of p s (outcomes.Trapped code vector) t = None
load_of p s outcomes.Idle t = None
load_of p s outcomes.PoweredOff t = None
load_of p s (outcomes.Conflict row other) t = None
load_of p s outcomes.Taken t = None
