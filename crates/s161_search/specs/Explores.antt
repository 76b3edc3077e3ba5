use Rattle.std.specs.Prelude.{◌≡◌, ℕ, ◌-◌, ◌==◌, false, if◌then◌else◌, List, length, Option, None, Some, codes, decimal}
use Rattle.m161_alike.specs.declared.known.Known.{Known}
use Rattle.m161_audit.specs.Watch.{AreGood}
use Rattle.m161_explore.specs.declared.whole.Answer.{Answer}
use Rattle.m161_explore.specs.declared.whole.Answer.TheVariants.{Clean, Found, Hung, Open, Ended}
use Rattle.m161_explore.specs.Answers.{Answers}
use Rattle.m161_judge.specs.declared.verdict.Verdict.{Verdict}
use Rattle.m161_judge.specs.declared.verdict.Verdict.TheVariants as run
use Rattle.m161_machine.specs.declared.conf.Conf.{Conf}
use Rattle.m161_machine.specs.History.{IsBootState}
use Rattle.m161_machine.specs.State.{State}
use Rattle.m161_order.specs.declared.order.Order.TheVariants.{Turns}
use Rattle.m161_reach.specs.Named.{events_named}
use Rattle.m161_reach.specs.Reach.{IsLearnt, question_of, rules_of}
use Rattle.m161_states.specs.declared.verdict.Unknown.{Unknown}
use Rattle.m161_states.specs.declared.verdict.EventVerdict.{EventVerdict}
use Rattle.m161_states.specs.declared.verdict.EventVerdict.TheVariants.{Stale, Reached, Conflict, Stuck, Output}
use Rattle.m161_stores.specs.Stores.{TellsStores}
use Rattle.m161_text.specs.Lines.{with_line_end}
use Rattle.m161_text.specs.Parts.{◌␣◌}
use Rattle.s161_command.specs.declared.task.ExploreTask.{ExploreTask}
use Rattle.s161_command.specs.declared.task.SearchTask.{SearchTask}
use Rattle.m161_reach.specs.declared.told.SearchVerdict.TheVariants as told
use Rattle.s161_search.specs.Given.{Given, criteria_of}
use Rattle.s161_search.specs.Notes.{Notes}
use Rattle.s161_search.specs.Searches.{IsGiven}
use Rattle.s161_command.specs.declared.task.AskedSize.{AskedSize}
use Rattle.s161_command.specs.declared.task.Size.{Size}
use Rattle.s161_search.specs.Texts.{clean_text, found_text}

-- The output and the exit status of `explore`, and what it says on standard error.

-- a machine of this size is asked for
abbrev pub asked_size : Size → AskedSize
asked_size size = record {
  ram = Some size.ram;
  processors = Some size.processors;
  log = size.log;
  link = Some size.link;
  strict = size.strict;
}

-- the search that reads what an exploration does: the same files, in the same order
abbrev pub as_search : ExploreTask → SearchTask
as_search task = record {
  image = task.image;
  size = asked_size task.size;
  drive = record { order = Turns 1; events = 1; transfer = 0; gap = None; keys = task.keys; after = None };
  delays = None;
  seeds = 1;
  jobs = 1;
  watches = task.watches;
  output = task.output;
  hung = 0;
  whole = false;
}

-- how many states there may be: at least one
abbrev pub limit_of : ExploreTask → ℕ
limit_of task = if task.states == 0 then 1 else task.states

-- a verdict of the last event of a list, as `search` has it: with the event's place
abbrev pub at_place : ℕ → EventVerdict → Verdict
at_place place (Stale processor address row) = run.Stale place processor address row
at_place place (Reached processor address) = run.Reached place processor address
at_place place (Conflict conflict) = run.Conflict conflict
at_place place Stuck = run.Stuck
at_place place Output = run.Output

-- how many states were found before
abbrev pub states_text : ℕ → List ℕ
states_text n = codes "# states" ␣ decimal n

-- there are more states than this, and nothing goes wrong in so many events
abbrev pub open_text : ℕ → ℕ → List ℕ
open_text limit size = codes "open" ␣ decimal limit ␣ decimal size

-- what is printed of an answer, with the exit status, for this machine, these keys, and at most
-- so many states
abbrev pub PrintsAnswer :
    Conf → ℕ → List ℕ → Answer EventVerdict Unknown → List ℕ → ℕ → Type 0
PrintsAnswer conf limit keys (Clean states) text status =
    (status ≡ 0) × (text ≡ with_line_end (clean_text states 0))
PrintsAnswer conf limit keys (Found events what states) text status =
    (status ≡ 4)
    × (text
    ≡ found_text conf (states_text states) (told.Run (at_place (length events.items - 1) what))
    (events_named conf.processors keys 0 events.items))
PrintsAnswer conf limit keys (Hung events states) text status =
    (status ≡ 4)
    × (text ≡ found_text conf (states_text states) told.Hung (events_named conf.processors keys 0 events.items))
PrintsAnswer conf limit keys (Open most) text status =
    (status ≡ 6) × (text ≡ with_line_end (open_text limit most))
PrintsAnswer conf limit keys (Ended reason) text status = ⊥

-- what a search would read is explored: from the state at boot, with so much of time being known as Steps
-- read, the answer says what it says of all lists of events; and it is said to which words of watches no
-- Step stores
pub record PrintsExplored (limit : ℕ) (given : Given) (text told : List ℕ) (status : ℕ)
    : Type 0 where
  pub good : (k : ℕ) → AreGood given.conf.ram given.watches k
  pub boot : State
  pub is_boot : IsBootState given.file given.conf boot
  pub known : Known
  pub learnt : IsLearnt (question_of boot (criteria_of given) known)
  pub answer : Answer EventVerdict Unknown
  pub answers : Answers (rules_of (question_of boot (criteria_of given) known)) limit answer
  pub prints : PrintsAnswer given.conf limit given.all_keys answer text status
  pub notes : Notes (TellsStores (question_of boot (criteria_of given) known) answer) given.watches told

-- the same behind reading, with these words for the addresses of `--never`
abbrev pub IsExploredBy :
    SearchTask → ℕ → List (List ℕ) → (List ℕ → Option (List ℕ)) → Option (List ℕ) → List ℕ → List ℕ → ℕ
    → Type 0
IsExploredBy search limit never files image text told status =
    (given : Given) × IsGiven search never files image given
    × PrintsExplored limit given text told status

-- a finished exploration: what it prints, what it says on standard error, and its exit status
abbrev pub IsExplored :
    ExploreTask → List (List ℕ) → (List ℕ → Option (List ℕ)) → Option (List ℕ) → List ℕ → List ℕ → ℕ
    → Type 0
IsExplored task never files image text told status =
    IsExploredBy (as_search task) (limit_of task) never files image text told status
