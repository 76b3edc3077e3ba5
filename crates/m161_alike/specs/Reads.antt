use Rattle.std.specs.Prelude.{◌≡◌, ℕ, Bool, true, false, if◌then◌else◌, List, Option, None, Some, Result, Ok, Err}
use Rattle.m161_isa.specs.declared.effect.Effect.{Effect}
use Rattle.m161_isa.specs.declared.effect.Effect.TheVariants as effect
use Rattle.m161_isa.specs.declared.table.Row.{Row}
use Rattle.m161_isa.specs.Table.{table, row_that_fits, numbers_of}
use Rattle.m161_cop0.specs.declared.register.Register.{Register}
use Rattle.m161_cop0.specs.declared.register.Register.TheVariants as register
use Rattle.m161_cop0.specs.Registers.{register_with}
use Rattle.m161_cpu.specs.Processor.{Processor}
use Rattle.m161_cpu.specs.Scene.{Scene, around, scene}
use Rattle.m161_cpu.specs.Effect.{Argument, arguments, with_three}
use Rattle.m161_cpu.specs.Step.{executable_word}
use Rattle.m161_cpu.specs.Uses.{fetches}
use Rattle.m161_machine.specs.State.{State, processor_at}
use Rattle.m161_alike.specs.declared.reads.Reads.{Reads}

-- What a Step reads of time: Random and Count, which tick with each Step.

abbrev pub reads : Bool → Bool → Reads
reads random count = record { random = random; count = count }

abbrev pub no_reads : Reads
no_reads = reads false false

-- `mfc0` of a register
abbrev pub reads_of_register : Option Register → Reads
reads_of_register (Some register.Random) = reads true false
reads_of_register (Some register.Count) = reads false true
reads_of_register _ = no_reads

-- the effects that read: `mfc0` by its register, and `tlbwr`, which writes row Random
abbrev pub reads_of : Effect → Argument → Argument → Argument → Reads
reads_of effect.MoveFromCop0 t r _ = reads_of_register (register_with r.number)
reads_of effect.WriteTlbRandom _ _ _ = reads true false
reads_of _ _ _ _ = no_reads

-- a row with the numbers of its operands
abbrev pub reads_of_row : Processor → Row → List ℕ → Reads
reads_of_row p r numbers =
    with_three (reads_of (table r).effect) (arguments p (table r).operands numbers)

abbrev pub reads_by_row : Processor → ℕ → Option Row → Reads
reads_by_row p word (Some r) = reads_of_row p r (numbers_of word (Some r))
reads_by_row p word None = no_reads

-- the instruction of a word
abbrev pub reads_of_word : Processor → ℕ → Reads
reads_of_word p word = reads_by_row p word (row_that_fits word)

-- after the fetch: nothing if there is no word that may be executed
abbrev pub reads_after : {F : Type 0} → Processor → Result ℕ F → Reads
reads_after p (Ok word) = reads_of_word p word
reads_after p (Err f) = no_reads

-- what the Step of a scene reads; `mfc0` and `tlbwr` don't trap once they may be executed
unfoldable pub reads_of_step : Scene → Reads
reads_of_step s =
    if fetches s then reads_after s.processor (executable_word s.around.memory s.processor)
    else no_reads

-- what a Step of processor p reads, if it is the next event
unfoldable pub reads_in : ℕ → State → Reads
reads_in p s =
    reads_of_step
    (scene (processor_at p s.processors) (around p s.memory s.board s.links s.conf.strict))

-- what is read is known
abbrev pub AreWithin : Reads → Reads → Type 0
AreWithin read known =
    (read.random ≡ true → known.random ≡ true) × (read.count ≡ true → known.count ≡ true)
