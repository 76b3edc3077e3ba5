use Rattle.std.specs.Prelude.{◌≡◌, ◌⊎◌, ℕ, ◌-◌, ◌==◌, nat_lt, if◌then◌else◌, Bool, true, false, List, [], ◌++◌, length, take, drop, Option, None, Some}
use Rattle.m161_judge.specs.declared.run.JudgedRun.{JudgedRun}
use Rattle.m161_judge.specs.declared.verdict.Judged.{Judged}
use Rattle.m161_judge.specs.declared.verdict.Verdict.TheVariants.{Stale, Reached, Conflict, Stuck, Output as OutputVerdict, End}
use Rattle.m161_judge.specs.Verdict.{IsJudged, rank}
use Rattle.m161_machine.specs.declared.event.Event.{Event}
use Rattle.m161_machine.specs.History.{IsBootState}
use Rattle.m161_machine.specs.State.{State}
use Rattle.m161_shorten.specs.declared.judged.Judgement.{Judgement}
use Rattle.m161_shorten.specs.Passes.{Shortens}
use Rattle.m161_text.specs.Lines.{with_line_end}
use Rattle.s161_base.specs.declared.fault.Fault.{Fault}
use Rattle.s161_base.specs.declared.fault.Fault.TheVariants.{After, Conf, File, Image, Log, LogImage, LogMachine, Memory, Never, Schedule, Watch, Watches}
use Rattle.s161_base.specs.Listed.{OfFirst}
use Rattle.s161_base.specs.Reading.{IsTextUnread}
use Rattle.s161_command.specs.declared.task.SearchTask.{SearchTask}
use Rattle.s161_run.specs.Driven.{IsKeysFile, IsOrderFault}
use Rattle.m161_reach.specs.declared.told.SearchVerdict.{SearchVerdict}
use Rattle.m161_reach.specs.declared.told.SearchVerdict.TheVariants.{Run, Hung}
use Rattle.m161_reach.specs.declared.told.Told.{Told}
use Rattle.s161_search.specs.Given.{Given, IsBadLine, IsRead, criteria_of}
use Rattle.s161_search.specs.Never.{AreAddresses, LacksAddress, symbols_in}
use Rattle.s161_search.specs.Notes.{Notes}
use Rattle.s161_search.specs.Runs.{IsRunFault}
use Rattle.s161_search.specs.Seeds.{AreClean, IsFirstWrong, seed_at}
use Rattle.m161_delays.specs.declared.search.Class.{Class}
use Rattle.m161_order.specs.declared.order.Order.TheVariants.{Turns}
use Rattle.s161_command.specs.declared.class.DelayClass.{DelayClass}
use Rattle.s161_search.specs.Delays.{AreCleanBy, IsFirstBy, class_of}
use Rattle.s161_search.specs.Texts.{clean_text, delays_text, found_text, seed_text}
use Rattle.s161_search.specs.Told.{IsRunToldAt, IsToldAt}
use Rattle.s161_search.specs.Unstored.{ListsUnstored, SeedsUnstored}

-- The output and the exit status of `search`, and what it says on standard error.

-- the verdict of a list of events, from the state at boot, whether it hangs or not
abbrev pub IsJudgedAt : Given → List Event → Option Judged → Type 0
IsJudgedAt given events judged =
    (booted : State) × IsBootState given.file given.conf booted
    × IsJudged (criteria_of given) booted events judged

-- the kinds of verdicts, by numbers
abbrev pub kind_number : SearchVerdict → ℕ
kind_number (Run v) = rank v
kind_number Hung = 6

-- behind so many events a list has a verdict of this kind, which needs this many of all, if it needs those
abbrev pub judgement_behind : ℕ → ℕ → ℕ → Option (Judgement ℕ)
judgement_behind first kind needs =
    if nat_lt needs first then None else Some (record { kind = kind; needs = needs - first })

-- a verdict of which only the kind matters, behind so many events
abbrev pub kind_behind : ℕ → Option Judged → Option (Judgement ℕ)
kind_behind first None = None
kind_behind first (Some judged) = judgement_behind first (rank judged.verdict) judged.events

-- the verdict of events that come first and of this list behind them
abbrev pub HasKind : Given → List Event → List Event → Option (Judgement ℕ) → Type 0
HasKind given first events verdict =
    (judged : Option Judged) × IsJudgedAt given (first ++ events) judged
    × (verdict ≡ kind_behind (length first) judged)

-- that they hang, and by how many of the list, if that is their verdict
abbrev pub hang_with : ℕ → SearchVerdict → ℕ → Option (Judgement ℕ)
hang_with first (Run v) n = None
hang_with first Hung n = judgement_behind first (kind_number Hung) n

abbrev pub hang_behind : ℕ → Option Told → Option (Judgement ℕ)
hang_behind first None = None
hang_behind first (Some told) = hang_with first told.verdict told.events

abbrev pub HasHang : SearchTask → Given → List Event → List Event → Option (Judgement ℕ) → Type 0
HasHang task given first events verdict =
    (told : Option Told) × IsToldAt task given (first ++ events) told
    × (verdict ≡ hang_behind (length first) told)

-- the verdicts by which a list is shortened: of a verdict of a run those of runs
abbrev pub HasKindOf :
    SearchVerdict → SearchTask → Given → List Event → List Event → Option (Judgement ℕ) → Type 0
HasKindOf (Run v) task given = HasKind given
HasKindOf Hung task given = HasHang task given

-- all events of a run are printed where that is asked for, and where the verdict is `end`
abbrev pub is_whole : Bool → SearchVerdict → Bool
is_whole whole (Run (Stale place processor address row)) = whole
is_whole whole (Run (Reached place processor address)) = whole
is_whole whole (Run (Conflict conflict)) = whole
is_whole whole (Run Stuck) = whole
is_whole whole (Run OutputVerdict) = whole
is_whole whole (Run End) = true
is_whole whole Hung = whole

-- the events that are printed of those that a verdict needs: as many of them as come first, and what the
-- passes leave of the rest, by verdicts of its kind
abbrev pub AreShortened : ℕ → SearchTask → Given → List Event → SearchVerdict → List Event → Type 0
AreShortened first task given needed verdict printed =
    (left : List Event) × (printed ≡ take first needed ++ left)
    × Shortens (λ kind. kind_number verdict == kind) (HasKindOf verdict task given (take first needed))
    (drop first needed) left

-- the events that are printed of a run with this verdict: all; or those that the verdict needs, shortened
-- behind the events that come first
abbrev pub ArePrinted : Bool → SearchTask → Given → List Event → Told → List Event → Type 0
ArePrinted true task given events told printed = printed ≡ events
ArePrinted false task given events told printed =
    AreShortened (length given.first) task given (take told.events events) told.verdict printed

-- the schedule of the first run that goes wrong, behind its seed and its verdict; the printed verdict
-- is that of the printed events, and is of the run's kind
pub record IsFound (task : SearchTask) (given : Given) (text : List ℕ) : Type 0 where
  pub place : ℕ
  pub run : JudgedRun
  pub told : Told
  pub first : IsFirstWrong task given place run told
  pub events : List Event
  pub are_printed :
      ArePrinted (is_whole task.whole told.verdict) task given run.events.items told events
  pub final : Told
  pub is_told : IsRunToldAt run.is_cut task given events (Some final)
  pub same_kind : kind_number final.verdict ≡ kind_number told.verdict
  pub text_is : text ≡ found_text given.conf (seed_text (seed_at task.drive.order place)) final.verdict events

-- none of the runs goes wrong
abbrev pub IsClean : SearchTask → Given → List ℕ → Type 0
IsClean task given text =
    (cut : ℕ) × AreClean task given task.seeds cut
    × (text ≡ with_line_end (clean_text task.seeds cut))

-- the schedule of the first list of delays whose run goes wrong, in the same way, behind its numbers
pub record IsFoundBy
    (task : SearchTask) (given : Given) (steps : ℕ) (class : Class) (text : List ℕ) : Type 0 where
  pub numbers : List ℕ
  pub run : JudgedRun
  pub told : Told
  pub first : IsFirstBy task given steps class numbers run told
  pub events : List Event
  pub are_printed :
      ArePrinted (is_whole task.whole told.verdict) task given run.events.items told events
  pub final : Told
  pub is_told : IsRunToldAt run.is_cut task given events (Some final)
  pub same_kind : kind_number final.verdict ≡ kind_number told.verdict
  pub text_is : text ≡ found_text given.conf (delays_text numbers) final.verdict events

-- none of the runs of a class goes wrong
abbrev pub IsCleanBy : SearchTask → Given → ℕ → Class → List ℕ → Type 0
IsCleanBy task given steps class text =
    (runs cut : ℕ) × AreCleanBy task given steps class runs cut
    × (text ≡ with_line_end (clean_text runs cut))

-- what is printed, what is said on standard error, and the exit status: by seeds, or by the delays of a
-- class of runs by turns. Where none goes wrong, it is said to which words of watches none of them stores
abbrev pub Prints : SearchTask → Given → Option DelayClass → List ℕ → List ℕ → ℕ → Type 0
Prints task given None text told status =
    ((status ≡ 0) × IsClean task given text × Notes (SeedsUnstored task given) given.watches told)
    ⊎ ((status ≡ 4) × IsFound task given text × (told ≡ []))
Prints task given (Some class) text told status =
    (steps : ℕ) × (task.drive.order ≡ Turns steps)
    × (((status ≡ 0) × IsCleanBy task given steps (class_of class) text
    × Notes (ListsUnstored task given steps (class_of class)) given.watches told)
    ⊎ ((status ≡ 4) × IsFoundBy task given steps (class_of class) text × (told ≡ [])))

-- all that was read, and the addresses of these words; the files have these bytes, and that of the
-- image, as far as they are known
abbrev pub IsGiven :
    SearchTask → List (List ℕ) → (List ℕ → Option (List ℕ)) → Option (List ℕ) → Given → Type 0
IsGiven task never files image given =
    IsRead task files image given × AreAddresses (symbols_in task given) never given.never

-- a finished search: what it prints, what it says on standard error, and its exit status
abbrev pub IsSearched :
    SearchTask → List (List ℕ) → (List ℕ → Option (List ℕ)) → Option (List ℕ) → List ℕ → List ℕ → ℕ
    → Type 0
IsSearched task never files image text told status =
    (given : Given) × IsGiven task never files image given
    × Prints task given task.delays text told status

-- a run isn't made, of what was read
abbrev pub IsNotRun :
    SearchTask → (List ℕ → Option (List ℕ)) → Option (List ℕ) → Fault → Type 0
IsNotRun task files image fault =
    (given : Given) × IsRead task files image given × IsRunFault given fault

-- the events that come first have no fault
abbrev pub HasFirst : SearchTask → (List ℕ → Option (List ℕ)) → Option (List ℕ) → Type 0
HasFirst task files image =
    OfFirst task.size image task.drive.after files (λ file first conf. Unit {0})

-- what a fault that ends a search says of its inputs: of a file, that it is one of a run by an order, the
-- watches' or the output's; of the text of the first events, what it says where a run by an order ends; of
-- the watches, their first bad line, and that the first events have no fault; of the configuration, the
-- image or a watch, that all files were read; of a word, that it is the first that stands for no address,
-- and that nothing was at fault before; of a first event that is refused, the same, with addresses for all
-- words. File and Memory hold whatever else is at fault
abbrev pub IsSearchFault :
    SearchTask → List (List ℕ) → (List ℕ → Option (List ℕ)) → Option (List ℕ) → Fault → Type 0
IsSearchFault task never files image (File name why) =
    IsOrderFault task.image task.size task.drive files image (File name why)
    ⊎ (IsTextUnread task.watches files (File name why) ⊎ IsKeysFile task.output (File name why))
IsSearchFault task never files image (Schedule n) =
    IsOrderFault task.image task.size task.drive files image (Schedule n)
IsSearchFault task never files image (Log n) =
    IsOrderFault task.image task.size task.drive files image (Log n)
IsSearchFault task never files image LogMachine =
    IsOrderFault task.image task.size task.drive files image LogMachine
IsSearchFault task never files image LogImage =
    IsOrderFault task.image task.size task.drive files image LogImage
IsSearchFault task never files image (Watches n) =
    HasFirst task files image × IsBadLine task.watches files n
IsSearchFault task never files image Conf = IsNotRun task files image Conf
IsSearchFault task never files image (Image e) = IsNotRun task files image (Image e)
IsSearchFault task never files image (Watch k) = IsNotRun task files image (Watch k)
IsSearchFault task never files image (Never word) =
    (given : Given) × IsRead task files image given × LacksAddress task never given word.now
IsSearchFault task never files image (After k why) =
    (given : Given) × IsGiven task never files image given × IsRunFault given (After k why)
IsSearchFault task never files image Memory = Unit {0}
IsSearchFault task never files image _ = ⊥
