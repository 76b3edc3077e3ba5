use Rattle.std.specs.Prelude.{◌≡◌, ◌⊎◌, ℕ, Bool, true, false, List, length, Option, None, Some, Result, Ok, Err}
use Rattle.m161_isa.specs.declared.effect.Effect.{Effect}
use Rattle.m161_ram.specs.Word.{word_at}
use Rattle.m161_cpu.specs.declared.fault.Access.TheVariants.{Fetch}
use Rattle.m161_cpu.specs.declared.fault.StepFault.{StepFault}
use Rattle.m161_cpu.specs.declared.fault.FaultKind.{FaultKind}
use Rattle.m161_cpu.specs.declared.fault.FaultKind.TheVariants as kind
use Rattle.m161_cpu.specs.declared.processor.Outcome.TheVariants.{Idle}
use Rattle.m161_cpu.specs.declared.processor.ProcessorState.TheVariants.{Running}
use Rattle.m161_cpu.specs.declared.translation.Physical.{Physical}
use Rattle.m161_cpu.specs.declared.uses.Via.{Via}
use Rattle.m161_cpu.specs.declared.uses.Uses.{Uses}
use Rattle.m161_cpu.specs.Processor.{Processor, with_state}
use Rattle.m161_cpu.specs.Scene.{Around, Scene, Change, scene, and_then, result_map}
use Rattle.m161_cpu.specs.Fault.{fault}
use Rattle.m161_cpu.specs.Translation.{in_ram, physical_at}
use Rattle.m161_cpu.specs.Effect.{Argument, effect_of}
use Rattle.m161_cpu.specs.Step.{change_in, lines_in, step_of, step_of_fault, step_of_result, usable, with_processor}
use Rattle.m161_cpu.specs.Uses.{Reference, fetch_of, fetches, reference_in, reference_of, translated, uses_of, via_row}

-- The laws of `uses_of`: the Step fetches, accesses and stores by what `uses_of` says, whatever its
-- outcome.

-- a fault of an address or of the bus
abbrev pub is_of_reference : FaultKind → Bool
is_of_reference kind.TlbModified = true
is_of_reference kind.TlbLoad = true
is_of_reference kind.TlbStore = true
is_of_reference kind.UserMissLoad = true
is_of_reference kind.UserMissStore = true
is_of_reference kind.AddressErrorLoad = true
is_of_reference kind.AddressErrorStore = true
is_of_reference kind.BusErrorFetch = true
is_of_reference kind.BusErrorData = true
is_of_reference kind.Interrupt = false
is_of_reference kind.SystemCall = false
is_of_reference kind.Breakpoint = false
is_of_reference kind.ReservedInstruction = false
is_of_reference kind.Coprocessor0Unusable = false
is_of_reference kind.Coprocessor1Unusable = false
is_of_reference kind.Coprocessor2Unusable = false
is_of_reference kind.Coprocessor3Unusable = false
is_of_reference kind.Overflow = false

-- it stores nothing and writes to no device, and its fault isn't one of an address or of the bus
abbrev pub RefersToNothing : Result Change StepFault → Type 0
RefersToNothing (Ok change) = (change.store ≡ None) × (change.board ≡ None)
RefersToNothing (Err f) = is_of_reference f.kind ≡ false

-- the physical address of a reference, or why it traps
abbrev pub address_of : Processor → Reference → Result ℕ StepFault
address_of p r = physical_at r.access r.width r.address p

-- An effect with a reference faults where its translation faults; beside its operands it depends on
-- the processor by the physical address of this reference alone. One without depends on what is
-- around the processor by the interrupt lines alone, so it reads no memory; and it refers to
-- nothing.
abbrev pub Refers : Effect → Argument → Argument → Argument → Option Reference → Type 0
Refers e a b c (Some r) =
    (s : Scene)
    → ((f : StepFault) → translated s.processor r ≡ Err f → effect_of s e a b c ≡ Err f)
    × ((p : Processor) → address_of p r ≡ address_of s.processor r
    → effect_of (scene p s.around) e a b c ≡ effect_of s e a b c)
Refers e a b c None =
    (s : Scene)
    → ((other : Around) → lines_in (scene s.processor other) ≡ lines_in s
    → effect_of (scene s.processor other) e a b c ≡ effect_of s e a b c)
    × RefersToNothing (effect_of s e a b c)

-- the law of the effects: the reference of each is the only one
abbrev pub EffectRefers : Type 0
EffectRefers = (e : Effect) (a b c : Argument) → Refers e a b c (reference_of e a b c)

-- a waiting processor that an interrupt wakes is running
abbrev pub awake : Scene → Scene
awake s = with_processor (with_state Running) s

abbrev pub uses : Option Via → Option Via → Option ℕ → Uses
uses fetch access stored = record { fetch = fetch; access = access; stored = stored }

-- the Step traps, with these uses; it stores nothing
abbrev pub TrapsWith : Scene → Option Via → StepFault → Type 0
TrapsWith s fetch f = (step_of s ≡ step_of_fault (awake s) f) × (uses_of s ≡ uses fetch None None)

-- the Step does what the effect of this word does, with these uses
abbrev pub DoesWith : Scene → Option Via → Option Via → ℕ → Type 0
DoesWith s fetch access word =
    (step_of s ≡ step_of_result (awake s) (change_in s word))
    × (uses_of s ≡ uses fetch access (step_of s).stored)

-- by the translation of the reference: it traps, or the effect is made, and may still trap
abbrev pub AccessesBy : Scene → Option Via → ℕ → Reference → Result Physical StepFault → Type 0
AccessesBy s fetch word r (Err f) = TrapsWith s fetch f
AccessesBy s fetch word r (Ok to) = DoesWith s fetch (via_row s.processor r.address to.row) word

-- by the reference of the word's instruction, if it has one
abbrev pub RefersBy : Scene → Option Via → ℕ → Option Reference → Type 0
RefersBy s fetch word None = DoesWith s fetch None word
RefersBy s fetch word (Some r) = AccessesBy s fetch word r (translated s.processor r)

-- by the word at the fetch's physical address, if it is in RAM and the word may be executed
abbrev pub ExecutesBy : Scene → Option Via → Result ℕ StepFault → Type 0
ExecutesBy s fetch (Err f) = TrapsWith s fetch f
ExecutesBy s fetch (Ok word) = RefersBy s fetch word (reference_in s.processor word)

abbrev pub word_from : List ℕ → ℕ → Processor → Result ℕ StepFault
word_from memory at p =
    and_then (result_map (word_at memory) (in_ram Fetch 4 (length memory) at)) (usable p.control)

-- by the translation of the fetch
abbrev pub FetchesBy : Scene → Result Physical StepFault → Type 0
FetchesBy s (Err f) = TrapsWith s None f
FetchesBy s (Ok to) =
    ExecutesBy s (via_row s.processor s.processor.pc to.row)
    (word_from s.around.memory to.at s.processor)

-- the Step is idle or takes an interrupt, and uses nothing
abbrev pub UsesNothing : Scene → Type 0
UsesNothing s =
    (((step_of s).outcome ≡ Idle) ⊎ (step_of s ≡ step_of_fault (awake s) (fault kind.Interrupt)))
    × (uses_of s ≡ uses None None None)

-- by whether the Step fetches
abbrev pub UsesBy : Scene → Bool → Type 0
UsesBy s false = UsesNothing s
UsesBy s true = FetchesBy s (translated s.processor (fetch_of s.processor))

-- the law of the Step
abbrev pub StepUses : Type 0
StepUses = (s : Scene) → UsesBy s (fetches s)
