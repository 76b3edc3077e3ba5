use Rattle.std.specs.Prelude.{◌≡◌, ◌⊎◌, ℕ, ◌+◌, ◌-◌, ◌^◌, min, ◌==◌, Bool, true, false, List, Option, None, Some, Result, Ok, Err}
use Rattle.m161_audit.specs.declared.finding.AuditError.{AuditError}
use Rattle.m161_audit.specs.declared.finding.AuditError.TheVariants.{Boot, BadWatch}
use Rattle.m161_audit.specs.declared.finding.Finding.{Finding}
use Rattle.m161_audit.specs.declared.finding.Finding.TheVariants as finding
use Rattle.m161_audit.specs.declared.watch.Watch.{Watch}
use Rattle.m161_audit.specs.Audit.{AuditsState}
use Rattle.m161_judge.specs.declared.verdict.Judged.{Judged}
use Rattle.m161_judge.specs.declared.verdict.Verdict.TheVariants.{Stale}
use Rattle.m161_judge.specs.Judge.{Judges}
use Rattle.m161_judge.specs.Verdict.{Criteria}
use Rattle.m161_machine.specs.History.{History, boot_fault, boot_state, events_of}
use Rattle.m161_reach.specs.declared.told.Told.{Told}
use Rattle.m161_c.specs.declared.answer.Judgement.{Judgement}
use Rattle.m161_c.specs.Files.{number_of_boot}
use Rattle.m161_c.specs.Verdicts.{no_verdict, run_verdict, search_verdict}

-- What is wrong with the events that a machine has made.

abbrev pub no_judgement : Judgement
no_judgement = record { verdict = no_verdict; events = 0 }

-- a finding as numbers: how many events there are up to the stale use, as far as 64 bits can say it
abbrev pub finding_numbers : Finding → Judgement
finding_numbers finding.Clean = no_judgement
finding_numbers (finding.Stale place p address row) =
    record { verdict = run_verdict (Stale place p address row); events = min (place + 1) (2 ^ 64 - 1) }

-- a verdict as numbers, with how many events it needs
abbrev pub judged_numbers : Option Judged → Judgement
judged_numbers None = no_judgement
judged_numbers (Some judged) =
    record { verdict = run_verdict judged.verdict; events = judged.events }

-- that of a search
abbrev pub told_numbers : Option Told → Judgement
told_numbers None = no_judgement
told_numbers (Some told) = record { verdict = search_verdict told.verdict; events = told.events }

-- why events aren't judged, as a number: as a boot's; or a watch is bad
abbrev pub number_of_audit : AuditError → ℕ
number_of_audit (Boot error) = number_of_boot (Err error)
number_of_audit (BadWatch k) = 22

-- what is told of a result: its numbers; or nothing
abbrev pub TellsResult :
    {A : Type 0} → (A → Judgement) → Result A AuditError → ℕ → Judgement → Judgement → Type 0
TellsResult numbers (Ok given) answer before after = (answer ≡ 0) × (after ≡ numbers given)
TellsResult numbers (Err error) answer before after =
    (answer ≡ number_of_audit error) × (after ≡ before)

-- memory was refused; or a result is told that is so
abbrev pub TellsOne :
    {A : Type 0} → (Result A AuditError → Type 0) → (A → Judgement) → ℕ → Judgement → Judgement → Type 0
TellsOne {A} IsSo numbers answer before after =
    (answer ≡ 254) × (after ≡ before)
    ⊎ ((result : Result A AuditError) × IsSo result
    × TellsResult numbers result answer before after)

-- Why there is no verdict, in this order: there is no machine; its log doesn't have all events since its boot; what the audit
-- or the judge says. Behind the log, memory may be refused instead.

abbrev pub WhereAll : Bool → ℕ → Judgement → Judgement → Type 0 → Type 0
WhereAll true answer before after Is = Is
WhereAll false answer before after Is = (answer ≡ 23) × (after ≡ before)

abbrev pub OfWhole : Option History → ℕ → Judgement → Judgement → (History → Type 0) → Type 0
OfWhole None answer before after Does = (answer ≡ 255) × (after ≡ before)
OfWhole (Some m) answer before after Does =
    WhereAll (m.base.made == 0) answer before after (Does m)

-- the audit of a machine's events, under these watches
abbrev pub AuditsAs : Option History → List Watch → ℕ → Judgement → Judgement → Type 0
AuditsAs machine watches answer before after = OfWhole machine answer before after (λ m.
    TellsOne (AuditsState (boot_state m.start) (events_of m.log) watches)
    finding_numbers answer before after)

-- the verdict on a machine's events, as made on one of its size that is booted from this file
abbrev pub JudgesAs : Option History → List ℕ → Criteria → ℕ → Judgement → Judgement → Type 0
JudgesAs machine file goal answer before after = OfWhole machine answer before after (λ m.
    TellsOne (Judges file m.start.conf (boot_fault file m.start.conf) (events_of m.log) goal)
    judged_numbers answer before after)
