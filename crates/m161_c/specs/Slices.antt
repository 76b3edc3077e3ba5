use Rattle.std.specs.Prelude.{◌≡◌, ℕ, true, false, nat_le, if◌then◌else◌, List, [], map, take, Option, None, Some, Result, Err}
use Rattle.m161_delays.specs.declared.search.Class.{Class}
use Rattle.m161_delays.specs.declared.slice.Slice.{Slice}
use Rattle.m161_delays.specs.declared.slice.SliceStop.{SliceStop}
use Rattle.m161_delays.specs.declared.slice.SliceStop.TheVariants.{Next, Wrong}
use Rattle.m161_delays.specs.Slices.{IsSlice}
use Rattle.m161_machine.specs.declared.conf.Conf.{Conf}
use Rattle.m161_machine.specs.History.{History, IsBootState}
use Rattle.m161_machine.specs.State.{State}
use Rattle.m161_order.specs.declared.order.Order.TheVariants.{Turns}
use Rattle.m161_order.specs.Delays.{delays_of}
use Rattle.m161_order.specs.Order.{order_fault}
use Rattle.m161_c.specs.declared.answer.ClassNumbers.{ClassNumbers}
use Rattle.m161_c.specs.declared.answer.ListNumbers.{ListNumbers}
use Rattle.m161_c.specs.declared.answer.SoughtList.{SoughtList}
use Rattle.m161_c.specs.declared.answer.SoughtSlice.{SoughtSlice}
use Rattle.m161_c.specs.declared.seeds.WrongRun.{WrongRun}
use Rattle.m161_c.specs.declared.session.Session.{Session}
use Rattle.m161_c.specs.Delays.{HasRightRun, HasWrongRun, class_in, offered_by, steps_in}
use Rattle.m161_c.specs.Seeds.{Asked, KeepsSought, SeeksBy, number_of_event}
use Rattle.m161_c.specs.Verdicts.{no_verdict, search_verdict}

-- A slice of a search by delays: the useful lists of a class from one on, as far as it came.

-- the list of these numbers, if there are no more than 64
abbrev pub list_in : ListNumbers → Option (List ℕ)
list_in numbers = if nat_le numbers.count 64 then Some (take numbers.count numbers.delays) else None

-- what is told of runs that have no verdict: how many there are, and how many of them are cut
abbrev pub TellsRight : ℕ → ℕ → SoughtList → List ℕ → Type 0
TellsRight runs cut found events =
    (found.verdict ≡ no_verdict) × (found.right ≡ runs) × (found.cut ≡ cut) × (found.events ≡ 0)
    × (found.count ≡ 0) × (events ≡ [])

-- what is told of a list whose run has one: the verdict, the events that it needs, and the list
abbrev pub TellsWrong : Asked → List ℕ → WrongRun → SoughtList → List ℕ → Type 0
TellsWrong a numbers wrong found events =
    (found.verdict ≡ search_verdict wrong.told.verdict) × (found.right ≡ 0) × (found.cut ≡ 0)
    × (found.events ≡ wrong.told.events) × (take found.count found.delays ≡ numbers)
    × (events ≡ map (number_of_event a.conf.processors) (take wrong.told.events wrong.run.events.items))

-- what is told of a slice, by where it stops, and at which list to go on, if at one
abbrev pub TellsStop : Asked → ℕ → ℕ → Option (SliceStop WrongRun) → SoughtSlice → List ℕ → Type 0
TellsStop a runs cut None told events =
    TellsRight runs cut told.found events × (told.goes_on ≡ false) × (told.next.count ≡ 0)
TellsStop a runs cut (Some (Wrong delays wrong)) told events =
    TellsWrong a (delays_of delays) wrong told.found events × (told.goes_on ≡ false) × (told.next.count ≡ 0)
TellsStop a runs cut (Some (Next delays)) told events =
    TellsRight runs cut told.found events × (told.goes_on ≡ true)
    × (take told.next.count told.next.delays ≡ delays_of delays)

-- the runs of the useful lists of a class from this one on, at most so many that have no verdict: whether there
-- are more; or the first one that has a verdict
pub record IsSlicedBy
    (a : Asked) (steps : ℕ) (class : Class) (from : List ℕ) (most : ℕ) (told : SoughtSlice) (events : List ℕ)
    : Type 0 where
  pub booted : State
  pub is_booted : IsBootState a.file a.conf booted
  pub slice : Slice WrongRun
  pub is_slice :
      IsSlice class (offered_by a steps booted) (HasRightRun a steps) (HasWrongRun a steps) from most slice
  pub is_told : TellsStop a slice.runs slice.cut slice.stop told events

-- what comes of it, as of the whole search

abbrev pub SeeksSlicesIn :
    Option ℕ → Option (List ℕ) → ℕ → Asked → Class → Result (SoughtSlice × List ℕ) ℕ → Type 0
SeeksSlicesIn None from most a class result = result ≡ Err 253
SeeksSlicesIn (Some steps) None most a class result = result ≡ Err 253
SeeksSlicesIn (Some steps) (Some from) most a class result =
    SeeksBy (order_fault (Turns steps)) (IsSlicedBy a steps class from most) a result

abbrev pub SeeksSlicesOn :
    Option History → (Conf → Asked) → ClassNumbers → ListNumbers → ℕ → Result (SoughtSlice × List ℕ) ℕ → Type 0
SeeksSlicesOn None a class from most result = result ≡ Err 255
SeeksSlicesOn (Some m) a class from most result =
    SeeksSlicesIn (steps_in (a m.start.conf).numbers class) (list_in from) most (a m.start.conf) (class_in class)
    result

abbrev pub SeeksSlicesAs :
    (Conf → Asked) → ClassNumbers → ListNumbers → ℕ → ℕ → SoughtSlice → SoughtSlice → Session → Session → Type 0
SeeksSlicesAs a class from most answer before after s t =
    (result : Result (SoughtSlice × List ℕ) ℕ) × SeeksSlicesOn s.machine a class from most result
    × KeepsSought result answer before after s t
