use Rattle.std.specs.Prelude.{◌≢◌}
use Rattle.std.proofs.Common.{◌≡◌, ◌⊎◌, ◌∙◌, ap, inl, inr, refl, subst, sym, ℕ, Bool, true, false, if◌then◌else◌, List, length, take, Option, None, Some}
use Rattle.std.proofs.Math.Seq.{take-length}
use Rattle.std.proofs.lemmas.List.{length-map}
use Rattle.m161_machine.specs.declared.event.Conflict.{Conflict}
use Rattle.m161_machine.specs.declared.event.Entry.{Entry}
use Rattle.m161_machine.specs.declared.conf.Conf.{Conf as MachineConf}
use Rattle.m161_machine.specs.declared.event.Event.{Event}
use Rattle.m161_machine.specs.declared.event.Refusal.{Refusal}
use Rattle.m161_machine.specs.declared.event.Refusal.TheVariants.{BadProcessor, KeyFull, NoMemory, NothingSent, Off, Worn}
use Rattle.m161_machine.specs.History.{events_of}
use Rattle.m161_machine.specs.State.{State}
use Rattle.m161_drive.specs.Policy.{Rules}
use Rattle.s161_run.specs.declared.events.RunStop.TheVariants.{End}
use Rattle.s161_run.specs.Runs.{StopsAfter, stop_off}
use Rattle.s161_base.proofs.Asking.{IsNoFile, memory_is_none}
use Rattle.s161_base.specs.declared.fault.Fault.{Fault}
use Rattle.s161_base.specs.declared.fault.Fault.TheVariants.{After, Conf, File, Image, Input, Log, LogImage, LogMachine, Memory, Never, Output, Schedule, Source, Threads, Touches, Watch, Watches, Word}
use Rattle.s161_base.specs.Faults.{BootsIn, fault_of_first}
use Rattle.s161_command.specs.declared.task.ScheduleTask.{ScheduleTask}
use Rattle.s161_run.specs.Behind.{ChoseBehind, RefusesFirst}
use Rattle.s161_run.specs.Driven.{AreInputs, IsOrderFault}
use Rattle.s161_run.specs.Schedules.{IsScheduledFault, RunsAsDriven}
use Rattle.s161_run.proofs.Following.{behind_leads}

-- What `run` makes of the events of a driven run.

as_many : (events : List Event) (entries : List Entry) → events ≡ events_of entries → length entries ≡ length events
as_many events entries is = sym (ap length is ∙ length-map entries (λ (e : Entry). e.event))

all_taken : (events : List Event) (entries : List Entry) → events ≡ events_of entries → events_of entries ≡ take (length entries) events
all_taken events entries is =
    sym (ap (λ n. take n events) (as_many events entries is) ∙ take-length events ∙ is)

stops : (s t : State) (events : List Event) (entries : List Entry) → s.board.off ≡ false → events ≡ events_of entries → (off : Bool) → t.board.off ≡ off →
    (conflict : Option Conflict) → t.conflict ≡ conflict → StopsAfter s events (length entries) (if off then stop_off conflict else End) t
stops s t events entries on is true off None none = ((on, off), none)
stops s t events entries on is true off (Some conflict) some = ((on, off), some)
stops s t events entries on is false off conflict has = (off ∙ sym on, as_many events entries is)

pub runs_as_driven : {rules : Rules} {n : ℕ} {first : List Event} (s : State) → s.board.off ≡ false → (events : List Event) (chose : ChoseBehind rules n s first events) →
    RunsAsDriven s events chose.entries chose.state
runs_as_driven s on events chose = record {
  leads = behind_leads chose.goes;
  are_first = all_taken events chose.entries chose.events_are;
  why = stops s chose.state events chose.entries on chose.events_are chose.state.board.off refl chose.state.conflict refl;
}

-- Why there is no schedule.

-- a fault of a run by an order
pub order_scheduled : (task : ScheduleTask) (files : List ℕ → Option (List ℕ)) (known : Option (List ℕ)) (fault : Fault) →
    IsOrderFault task.image task.size task.drive files known fault → IsScheduledFault task files known fault
order_scheduled task files known (After k why) h = absurd h
order_scheduled task files known Conf h = h
order_scheduled task files known (File name why) h = h
order_scheduled task files known (Image e) h = h
order_scheduled task files known (Input why) h = h
order_scheduled task files known (Log n) h = h
order_scheduled task files known LogImage h = h
order_scheduled task files known LogMachine h = h
order_scheduled task files known Memory h = h
order_scheduled task files known (Never word) h = h
order_scheduled task files known Output h = h
order_scheduled task files known (Schedule n) h = h
order_scheduled task files known (Source e) h = h
order_scheduled task files known (Threads cause) h = h
order_scheduled task files known (Touches word) h = h
order_scheduled task files known (Watch k) h = h
order_scheduled task files known (Watches n) h = h
order_scheduled task files known Word h = h

-- the fault of a refusal: `P` is what is said of it
by_why : (P : Fault → Type 0) (k : ℕ) (why : Refusal) → (why ≢ NoMemory → P (After k why)) → P Memory → P (fault_of_first k why)
by_why P k BadProcessor other memory = other (λ e. absurd (cc))
by_why P k Off other memory = other (λ e. absurd (cc))
by_why P k Worn other memory = other (λ e. absurd (cc))
by_why P k KeyFull other memory = other (λ e. absurd (cc))
by_why P k NothingSent other memory = other (λ e. absurd (cc))
by_why P k NoMemory other memory = memory

-- why the events aren't listed
abbrev Unlisted : State → List Event → Fault → Type 0
Unlisted s first fault = (fault ≡ Memory) ⊎ ((k : ℕ) × (why : Refusal) × RefusesFirst s first k why × (fault ≡ fault_of_first k why))

pub refused_scheduled : (task : ScheduleTask) (files : List ℕ → Option (List ℕ)) (known : Option (List ℕ)) (file keys : List ℕ) (first : List Event) (conf : MachineConf) (booted : State) →
    AreInputs task.size task.drive files known file keys first conf → BootsIn file conf booted → (fault : Fault) → Unlisted booted first fault →
    IsScheduledFault task files known fault
refused_scheduled task files known file keys first conf booted inputs boots fault (inl is) = subst (IsScheduledFault task files known) (sym is) tt
refused_scheduled task files known file keys first conf booted inputs boots fault (inr h) =
    subst (IsScheduledFault task files known) (sym h.3)
    (by_why (IsScheduledFault task files known) h.0 h.1
    (λ other. (
      file,
      inputs.is_file,
      (inputs.text, first, conf, inputs.is_text, inputs.lists, record { booted = booted; boots = boots; refuses = h.2; not_memory = other }),
    ))
    tt)

pub behind_is_none : (s : State) (first : List Event) (fault : Fault) → Unlisted s first fault → IsNoFile fault
behind_is_none s first fault (inl is) = memory_is_none fault is
behind_is_none s first fault (inr h) = subst IsNoFile (sym h.3) (by_why IsNoFile h.0 h.1 (λ other. tt) tt)
