use Rattle.std.specs.Prelude.{◌≡◌, ℕ, ◌+◌, ◌-◌, ◌<◌, min, Bool, true, false, ◌==◌, List, [], ◌∷◌, ◌++◌, map, length, replicate, slice_index_or, Option, None, Some, Result, Ok, Err, if◌then◌else◌}
use Rattle.std.specs.List.{count_by}
use Rattle.m161_elf.specs.declared.image.LoadError.{LoadError}
use Rattle.m161_elf.specs.Image.{first_fault, IsImage}
use Rattle.m161_cpu.specs.declared.processor.Outcome.{Outcome}
use Rattle.m161_cpu.specs.declared.processor.Outcome.TheVariants.{Ran, Trapped, Idle, PoweredOff, Conflict, Taken}
use Rattle.m161_cpu.specs.Processor.{stopped_processor, started_processor}
use Rattle.m161_cpu.specs.Step.{IsOfStep}
use Rattle.m161_machine.specs.declared.conf.Conf.{Conf}
use Rattle.m161_machine.specs.declared.conf.BootError.{BootError}
use Rattle.m161_machine.specs.declared.conf.BootError.TheVariants.{BadConf, Load, NoMemory}
use Rattle.m161_machine.specs.declared.event.Event.{Event}
use Rattle.m161_machine.specs.declared.event.Entry.{Entry}
use Rattle.m161_machine.specs.declared.event.Refusal.{Refusal}
use Rattle.m161_machine.specs.Conf.{is_within_limits}
use Rattle.m161_bus.specs.Console.{console_at_boot}
use Rattle.m161_bus.specs.Board.{board_at_boot}
use Rattle.m161_machine.specs.declared.event.Event.TheVariants.{Step, Key, Done}
use Rattle.m161_machine.specs.declared.event.Refusal.TheVariants.{NoMemory as NoMemoryRefusal}
use Rattle.m161_cpu.specs.Links.{no_links}
use Rattle.m161_machine.specs.State.{CoreValue, State, counts, next}

-- The history of a machine: from its base, it is the replay of its log.

-- what a machine is booted from: all of RAM, the address of the first instruction, its size and its
-- modes
pub record Start : Type 0 where
  pub bytes : List ℕ
  pub entry : ℕ
  pub conf : Conf

-- the state at boot: processor 0 is started at the entry, and the others are stopped
abbrev pub boot_state : Start → State
boot_state start = record {
  conf = start.conf;
  processors =
      started_processor start.entry 0 0 0
      ∷ replicate (start.conf.processors - 1) stopped_processor;
  memory = start.bytes;
  board = board_at_boot start.conf.ram start.conf.processors console_at_boot;
  links = no_links start.conf.link;
  made = 0;
  conflict = None;
}

abbrev pub events_of : List Entry → List Event
events_of log = map (λ (e : Entry). e.event) log

-- the model of a machine in contracts: what it was booted from, the state at the base of its log,
-- the entries of the last events, and the state that they lead to
pub record History : Type 0 where
  pub start : Start
  pub base : State
  pub log : List Entry
  pub state : State

-- from one state, the events of these entries are accepted one after the other, each with its
-- entry's outcome, and end in another
abbrev pub Leads : State → List Entry → State → Type 0
Leads s [] t = t ≡ s
Leads s (e ∷ es) t = (u : State) × (next s e.event ≡ Ok (e.outcome, u)) × Leads u es t

-- the log leads from the base to the machine's state
abbrev pub IsReplay : History → Type 0
IsReplay h = Leads h.base h.log h.state

-- some events lead from the state at boot to this one
abbrev pub IsReached : Start → State → Type 0
IsReached start s = (entries : List Entry) × Leads (boot_state start) entries s

-- an event is a Step of this processor
abbrev pub is_step_of : ℕ → Event → Bool
is_step_of p (Step q) = q == p
is_step_of p (Key byte) = false
is_step_of p Done = false

-- how many of the events are Steps of this processor
abbrev pub steps_of : ℕ → List Event → ℕ
steps_of p events = count_by (is_step_of p) events

-- since the base, each processor has counted its Steps in the log, and no others
abbrev pub CountsSteps : History → Type 0
CountsSteps h =
    (p : ℕ) → p < length h.state.processors →
    slice_index_or (counts h.state) p 0
    ≡ slice_index_or (counts h.base) p 0 + steps_of p (events_of h.log)

-- an outcome that an event can have: a Step's is never Taken, its trap has one of the four vectors,
-- and its conflict is of two rows; that of a byte typed or sent is Taken
abbrev pub CanGive : Event → Outcome → Type 0
CanGive (Step p) o = IsOfStep o
CanGive (Key byte) o = o ≡ Taken
CanGive Done o = o ≡ Taken

-- an outcome of a machine of this mode: only on a strict one is there a conflict
abbrev pub FitsMode : Bool → Outcome → Type 0
FitsMode strict Ran = Unit {0}
FitsMode strict (Trapped code vector) = Unit {0}
FitsMode strict Idle = Unit {0}
FitsMode strict PoweredOff = Unit {0}
FitsMode strict (Conflict row other) = strict ≡ true
FitsMode strict Taken = Unit {0}

abbrev pub entry : Event → Outcome → Entry
entry e o = record { event = e; outcome = o }

-- how an event is refused: as `next` says; or, if `next` accepts it, for want of memory, which only
-- Done can be
abbrev pub Refuses : Result (Outcome × State) Refusal → Event → Refusal → Type 0
Refuses (Err first) e refusal = refusal ≡ first
Refuses (Ok given) e refusal = (refusal ≡ NoMemoryRefusal) × (e ≡ Done)

-- the result of an event and the state after it
abbrev pub Makes : State → Event → Result Outcome Refusal → State → Type 0
Makes s e (Ok o) t = next s e ≡ Ok (o, t)
Makes s e (Err refusal) t = Refuses (next s e) e refusal × (t ≡ s)

-- the same of an event that is answered with its entry
abbrev pub MakesEntry : State → Event → Result Entry Refusal → State → Type 0
MakesEntry s e (Ok made) t = (made.event ≡ e) × (next s e ≡ Ok (made.outcome, t))
MakesEntry s e (Err refusal) t = Refuses (next s e) e refusal × (t ≡ s)

-- the log after these entries were appended: the last ones that it has room for. The entries before
-- them are lost, and lead from the base before to the base after.
pub record Slides (m : History) (entries : List Entry) (n : History) : Type 0 where
  pub lost : List Entry
  pub log_is : m.log ++ entries ≡ lost ++ n.log
  pub base_is : Leads m.base lost n.base
  pub length_is : length n.log ≡ min m.start.conf.log (length m.log + length entries)
  pub start_is : n.start ≡ m.start

-- the result of an event and the machine after it: those of `next`, with the entry appended to the
-- log; or the refusal, and nothing is changed
abbrev pub Answers : History → Event → Result Outcome Refusal → History → Type 0
Answers m e (Ok o) n = (next m.state e ≡ Ok (o, n.state)) × Slides m (entry e o ∷ []) n
Answers m e (Err refusal) n = Refuses (next m.state e) e refusal × (n ≡ m)

-- from m the events are accepted one after the other, and leave n: their entries are appended to
-- the log
pub record Continues (m : History) (events : List Event) (n : History) : Type 0 where
  pub entries : List Entry
  pub events_are : events_of entries ≡ events
  pub run_is : Leads m.state entries n.state
  pub slides : Slides m entries n

-- why an event, asked for n times, was made this many times: that is n, or the next is refused
abbrev pub Ends : History → Event → ℕ → ℕ → Option Refusal → Type 0
Ends m e n made None = made ≡ n
Ends m e n made (Some refusal) = (made < n) × (next m.state e ≡ Err refusal)

-- a machine that was just booted from a file
pub record IsBooted (file : List ℕ) (conf : Conf) (m : History) : Type 0 where
  pub conf_is : m.start.conf ≡ conf
  pub image : IsImage file conf.ram m.start.entry m.start.bytes
  pub log_is : m.log ≡ []
  pub base_is : m.base ≡ boot_state m.start
  pub state_is : m.state ≡ boot_state m.start

-- a state at boot from a file
pub record IsBootState (file : List ℕ) (conf : Conf) (s : State) : Type 0 where
  pub start : Start
  pub conf_is : start.conf ≡ conf
  pub image : IsImage file conf.ram start.entry start.bytes
  pub state_is : s ≡ boot_state start

-- a machine that was booted from this, before its first event
abbrev pub history_at_boot : Start → History
history_at_boot start = record {
  start = start;
  base = boot_state start;
  log = [];
  state = boot_state start;
}

-- the fault of an image, as an error of the boot
abbrev pub load_fault : Option LoadError → Option BootError
load_fault None = None
load_fault (Some e) = Some (Load e)

-- the first reason not to boot
abbrev pub boot_fault : List ℕ → Conf → Option BootError
boot_fault file conf =
    if is_within_limits conf then load_fault (first_fault file conf.ram) else Some BadConf

-- the result of a boot, by the first reason not to boot: that reason; or without one the machine,
-- or that memory was refused
abbrev pub Boots : List ℕ → Conf → Option BootError → Result History BootError → Type 0
Boots file conf (Some first) (Ok m) = ⊥
Boots file conf (Some first) (Err e) = e ≡ first
Boots file conf None (Ok m) = IsBooted file conf m
Boots file conf None (Err e) = e ≡ NoMemory

-- the same of a boot that gives the state alone
abbrev pub BootsState :
    List ℕ → Conf → Option BootError → Result CoreValue BootError → Type 0
BootsState file conf (Some first) (Ok c) = ⊥
BootsState file conf (Some first) (Err e) = e ≡ first
BootsState file conf None (Ok c) = IsBootState file conf c.state
BootsState file conf None (Err e) = e ≡ NoMemory

-- a start is the image of some file without a fault
abbrev pub IsLoaded : Start → Type 0
IsLoaded start =
    (file : List ℕ) × (first_fault file start.conf.ram ≡ None)
    × IsImage file start.conf.ram start.entry start.bytes

abbrev pub is_done : Event → Bool
is_done (Step p) = false
is_done (Key byte) = false
is_done Done = true

-- how many of the entries are of Done: each of them wants a byte's room of the base's console
abbrev pub transfers_of : List Entry → ℕ
transfers_of entries = count_by (λ (e : Entry). is_done e.event) entries
