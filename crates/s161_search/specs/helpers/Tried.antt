use Rattle.std.specs.Prelude.{◌≡◌, ℕ, Bool, List, Some}
use Rattle.m161_machine.specs.declared.event.Event.{Event}
use Rattle.s161_command.specs.declared.task.SearchTask.{SearchTask}
use Rattle.s161_search.specs.declared.found.Printed.{Printed}
use Rattle.m161_jobs.specs.declared.trials.Tried.{Tried}
use Rattle.m161_jobs.specs.declared.trials.Tried.TheVariants.{Clean, Wrong}
use Rattle.s161_search.specs.Given.{Given}
use Rattle.s161_search.specs.Searches.{ArePrinted, is_whole, kind_number}
use Rattle.s161_search.specs.Seeds.{AreClean, IsFirstWrong}
use Rattle.m161_delays.specs.declared.search.Class.{Class}
use Rattle.m161_delays.specs.declared.search.Searched.{Searched}
use Rattle.m161_delays.specs.declared.search.Searched.TheVariants as searched
use Rattle.m161_order.specs.Delays.{delays_of}
use Rattle.s161_search.specs.declared.orders.WrongRun.{WrongRun}
use Rattle.m161_reach.specs.declared.told.Told.{Told}
use Rattle.s161_search.specs.Delays.{AreCleanBy, IsFirstBy}
use Rattle.s161_search.specs.Texts.{delays_text, found_text}
use Rattle.s161_search.specs.Told.{IsRunToldAt}

-- What came of the seeds, and what is printed of it.

abbrev pub IsTried : SearchTask → Given → Tried WrongRun → Type 0
IsTried task given (Clean cut) = AreClean task given task.seeds cut
IsTried task given (Wrong place wrong) = IsFirstWrong task given place wrong.run wrong.told

abbrev pub IsSearchedBy : SearchTask → Given → ℕ → Class → Searched WrongRun → Type 0
IsSearchedBy task given steps class (searched.Clean runs cut) = AreCleanBy task given steps class runs cut
IsSearchedBy task given steps class (searched.Wrong delays wrong) =
    IsFirstBy task given steps class (delays_of delays) wrong.run wrong.told

-- the events that are printed of a run with this verdict, and the verdict that is printed
pub record ArePrintedWith
    (cut : Bool) (task : SearchTask) (given : Given) (events : List Event) (told : Told) (printed : Printed)
    : Type 0 where
  pub are_printed :
      ArePrinted (is_whole task.whole told.verdict) task given events told printed.events.items
  pub final : Told
  pub verdict_is : printed.verdict ≡ final.verdict
  pub is_told : IsRunToldAt cut task given printed.events.items (Some final)
  pub same_kind : kind_number final.verdict ≡ kind_number told.verdict

-- what is printed of a run that goes wrong, behind the numbers of its list
pub record IsListed
    (task : SearchTask) (given : Given) (numbers : List ℕ) (wrong : WrongRun) (text : List ℕ) : Type 0 where
  pub events : List Event
  pub are_printed :
      ArePrinted (is_whole task.whole wrong.told.verdict) task given wrong.run.events.items wrong.told events
  pub final : Told
  pub is_told : IsRunToldAt wrong.run.is_cut task given events (Some final)
  pub same_kind : kind_number final.verdict ≡ kind_number wrong.told.verdict
  pub text_is : text ≡ found_text given.conf (delays_text numbers) final.verdict events
