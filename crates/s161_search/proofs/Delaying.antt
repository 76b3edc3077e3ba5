use Rattle.std.proofs.Common.{◌≡◌, ◌≢◌, ◌∙◌, ◌⊎◌, ◌+◌, inl, inr, refl, ap, sym, subst, ℕ, ◌<◌, ◌≤◌, Bool, List, [], ◌∷◌, length, arith}
use Rattle.std.specs.Prelude.{IfOk, Option, Some, Result, Ok, Err, slice_get}
use Rattle.m161_delays.specs.declared.search.Class.{Class}
use Rattle.m161_delays.specs.Lists.{ComesBefore, IsAscendingFrom, IsOf}
use Rattle.m161_delays.specs.Runs.{IsUsefulOf}
use Rattle.m161_jobs.specs.Trials.{AreRight}
use Rattle.m161_delays.specs.Search.{AreClean, Finds, IsFirst}
use Rattle.m161_delays.specs.declared.search.Searched.{Searched}
use Rattle.m161_delays.specs.declared.search.Searched.TheVariants.{Clean, Wrong}
use Rattle.m161_delays.proofs.Counting.{right_among}
use Rattle.m161_delays.proofs.Members.{below_part, from_part}
use Rattle.m161_drive.specs.Choice.{cursor_at}
use Rattle.m161_drive.specs.declared.run.Stop.{Stop as DriveStop}
use Rattle.m161_drive.specs.declared.run.Stop.TheVariants as drive
use Rattle.m161_machine.specs.declared.event.Conflict.{Conflict as ConflictOf}
use Rattle.m161_machine.specs.declared.event.Entry.{Entry}
use Rattle.m161_machine.specs.declared.event.Refusal.{Refusal}
use Rattle.m161_machine.specs.State.{State}
use Rattle.m161_order.specs.declared.delays.Delays.{Delays}
use Rattle.m161_order.specs.declared.order.Order.{Order}
use Rattle.m161_order.specs.declared.order.Order.TheVariants.{Turns, Delayed, Random, Priorities}
use Rattle.m161_order.specs.Delays.{delays_of}
use Rattle.m161_places.specs.Laws.{IsEffective}
use Rattle.m161_places.proofs.Effective.{have_effective_part}
use Rattle.m161_places.proofs.Moving.{run_of_part}
use Rattle.s161_command.specs.Classes.{HasClassLimits}
use Rattle.s161_command.specs.declared.class.DelayClass.{DelayClass}
use Rattle.s161_command.specs.declared.task.SearchTask.{SearchTask}
use Rattle.s161_run.specs.declared.events.RunStop.{RunStop}
use Rattle.s161_run.specs.declared.events.RunStop.TheVariants.{Off, Conflict, End, Stuck, Refused}
use Rattle.s161_run.specs.Behind.{Follows, WasAccepted, told}
use Rattle.s161_run.specs.Driven.{rules_of}
use Rattle.s161_search.specs.Delays.{AreCleanBy, HasRightRun, IsFirstBy, IsRightBy, offered_by}
use Rattle.s161_search.specs.Given.{Given}
use Rattle.s161_base.specs.declared.fault.Fault.{Fault}
use Rattle.s161_search.specs.declared.orders.WrongRun.{WrongRun}
use Rattle.m161_states.specs.Question.{Question}
use Rattle.s161_search.specs.declared.start.Start.{Start}
use Rattle.s161_search.specs.helpers.Delayed.{BeginsBehind, HasRightRunAt, IsRightFrom, IsWrongFrom}
use Rattle.s161_search.specs.helpers.Tried.{IsListed, IsSearchedBy}
use Rattle.s161_search.specs.Searches.{IsFoundBy}
use Rattle.s161_search.specs.Runs.{IsBehindFirst, most_of}
use Rattle.s161_search.proofs.Starting.{behind_first}
use Rattle.s161_search.proofs.Judging.{rights_as}

-- Every list of a class has the run of a useful one.

-- the delays of a list that have an effect
abbrev Effective : SearchTask → Given → ℕ → State → List ℕ → List ℕ → Type 0
Effective task given steps s all part =
    IsEffective (most_of task given) (rules_of task.drive given.keys) (slice_get given.keys) (record { steps = steps; made = 0 })
    (cursor_at (rules_of task.drive given.keys) s) s all part

effective : (task : SearchTask) (given : Given) (steps : ℕ) (s : State) (all : List ℕ) → (part : List ℕ) × Effective task given steps s all part
effective task given steps s all =
    have_effective_part (most_of task given) (rules_of task.drive given.keys) (slice_get given.keys) (record { steps = steps; made = 0 })
    (cursor_at (rules_of task.drive given.keys) s) s all

-- they are of the class too
ascending_any : (from : ℕ) (ns : List ℕ) → IsAscendingFrom from ns → IsAscendingFrom 0 ns
ascending_any from [] h = tt
ascending_any from (n ∷ ns) h = (omega arith, h.1)

part_few : (class : Class) (all part : List ℕ) → IsOf class all → (part ≡ all) ⊎ (length part < length all) → length part ≤ class.most
part_few class all part of (inl same) = let size = ap length same in let few = of.few in omega (arith, size, few)
part_few class all part of (inr shorter) = let few = of.few in omega (arith, shorter, few)

part_useful : (task : SearchTask) (given : Given) (steps : ℕ) (s : State) (class : Class) (all part : List ℕ) → IsOf class all →
    Effective task given steps s all part → IsUsefulOf class (offered_by task given steps s) part
part_useful task given steps s class all part of h = (
  record {
    few = part_few class all part of (h.is_same_or_shorter (ascending_any class.from all of.ascending));
    ascending = from_part class.from all part of.ascending h.is_ascending h.is_part;
    below = below_part class.within all part of.below h.is_part;
  },
  h.is_useful,
)

-- the run of a part is the run of the list

told_refused : (made : ℕ) (conflict : Option ConflictOf) (stop : DriveStop) (all : RunStop) → all ≡ told made conflict stop → WasAccepted all →
    (refusal : Refusal) → stop ≢ drive.Refused refusal
told_refused made conflict stop all is accepted refusal h = accepted made refusal (is ∙ ap (told made conflict) h)

follows_of_part : (task : SearchTask) (given : Given) (steps : ℕ) (all part : Delays) (first_stop : RunStop) (first : List Entry) (u : State) (stop : RunStop)
    (entries : List Entry) (t : State) → Effective task given steps u (delays_of all) (delays_of part) → WasAccepted stop →
    Follows (rules_of (record task.drive { order = Delayed steps part }) given.keys) (most_of task given) first_stop first u stop entries t →
    Follows (rules_of (record task.drive { order = Delayed steps all }) given.keys) (most_of task given) first_stop first u stop entries t
follows_of_part task given steps all part End first u stop entries t h accepted f = (
  f.0,
  f.1,
  run_of_part (rules_of task.drive given.keys) (most_of task given) steps all part u f.0 f.1 t h f.2
      (told_refused (length first + f.0.made) t.conflict f.0.stop stop f.4 accepted),
  f.3,
  f.4,
)
follows_of_part task given steps all part Off first u stop entries t h accepted f = f
follows_of_part task given steps all part (Conflict conflict) first u stop entries t h accepted f = f
follows_of_part task given steps all part Stuck first u stop entries t h accepted f = f
follows_of_part task given steps all part (Refused k refusal) first u stop entries t h accepted f = f

right_of_part : (task : SearchTask) (given : Given) (steps : ℕ) (u : State) (all : Delays) (part : List ℕ) (is_cut : Bool) →
    Effective task given steps u (delays_of all) part → HasRightRunAt u task given steps part is_cut → IsRightBy task given steps all
right_of_part task given steps u all part is_cut h right =
    let delays = right.0 in
    let is = right.3 in
    let of_part : Effective task given steps is.goes.between (delays_of all) (delays_of delays) =
    subst (λ x. Effective task given steps x (delays_of all) (delays_of delays)) (sym right.6)
    (subst (λ xs. Effective task given steps u (delays_of all) xs) (sym right.2) h) in (
      right.1,
      record {
        good = is.good;
        booted = is.booted;
        is_booted = is.is_booted;
        stop = is.stop;
        entries = is.entries;
        state = is.state;
        goes = record {
          first_stop = is.goes.first_stop;
          first = is.goes.first;
          between = is.goes.between;
          makes = is.goes.makes;
          follows =
              follows_of_part task given steps all delays is.goes.first_stop is.goes.first is.goes.between is.stop is.entries is.state of_part is.accepted
              is.goes.follows;
        };
        accepted = is.accepted;
        events_are = is.events_are;
        judged = is.judged;
        cut = is.cut;
      },
      right.4,
    )

-- each list of a class
right_each : (task : SearchTask) (given : Given) (steps : ℕ) (u : State) (class : Class) (all : Delays) → IsOf class (delays_of all) →
    ((part : List ℕ) → IsUsefulOf class (offered_by task given steps u) part → Effective task given steps u (delays_of all) part →
    (is_cut : Bool) × HasRightRunAt u task given steps part is_cut) → IsRightBy task given steps all
right_each task given steps u class all of right =
    let found = effective task given steps u (delays_of all) in
    let useful = part_useful task given steps u class (delays_of all) found.0 of found.1 in
    let run = right found.0 useful found.1 in
    right_of_part task given steps u all found.0 run.0 found.1 run.1

-- a run that begins there is a run
right_at : (task : SearchTask) (given : Given) (steps : ℕ) (u : State) (numbers : List ℕ) (is_cut : Bool) → HasRightRunAt u task given steps numbers is_cut →
    HasRightRun task given steps numbers is_cut
right_at task given steps u numbers is_cut h = (h.0, h.1, h.2, h.3, h.4, h.5)

pub clean_by : (task : SearchTask) (given : Given) (steps : ℕ) (u : State) (class : Class) (runs cut : ℕ) → IsBehindFirst given u →
    AreClean class (offered_by task given steps u) (HasRightRunAt u task given steps) runs cut → AreCleanBy task given steps class runs cut
clean_by task given steps u class runs cut start clean = record {
  each = λ delays of.
      right_each task given steps u class delays of
      (λ part useful h. right_among (HasRightRunAt u task given steps) clean.lists clean.all_cut part clean.are_right (clean.are_useful.all part useful));
  start = u;
  is_start = start;
  lists = clean.lists;
  are_useful = clean.are_useful;
  all_cut = clean.all_cut;
  are_right = rights_as (HasRightRunAt u task given steps) (HasRightRun task given steps) clean.lists clean.all_cut (right_at task given steps u) clean.are_right;
  runs_is = clean.runs_is;
  cut_is = clean.cut_is;
}

-- the lists before the first that goes wrong
before_part : (all part first : List ℕ) → (part ≡ all) ⊎ (length part < length all) → ComesBefore all first → ComesBefore part first
before_part all part first (inl same) order = subst (λ xs. ComesBefore xs first) (sym same) order
before_part all part first (inr shorter) (inl less) = inl (omega (arith, shorter, less))
before_part all part first (inr shorter) (inr same) = let long = same.0 in inl (omega (arith, shorter, long))

pub right_before : {W : Type 0} (task : SearchTask) (given : Given) (steps : ℕ) (u : State) (class : Class) (wrong : List ℕ → W → Type 0)
    (first : List ℕ) (what : W) → IsFirst class (offered_by task given steps u) (HasRightRunAt u task given steps) wrong first what →
    (others : Delays) → IsOf class (delays_of others) → ComesBefore (delays_of others) first → IsRightBy task given steps others
right_before task given steps u class wrong first what found others of order =
    right_each task given steps u class others of
    (λ part useful h.
    found.before part useful
    (before_part (delays_of others) part first (h.is_same_or_shorter (ascending_any class.from (delays_of others) of.ascending)) order))

-- what is known behind the start
rights_from : (start : Start) (q : Question) (task : SearchTask) (given : Given) (steps : ℕ) (lists : List (List ℕ)) (cut : ℕ) → BeginsBehind given start q →
    AreRight (IsRightFrom start q task given steps) lists cut → AreRight (HasRightRunAt start.core.value.state task given steps) lists cut
rights_from start q task given steps lists cut behind =
    rights_as (IsRightFrom start q task given steps) (HasRightRunAt start.core.value.state task given steps) lists cut (λ x b right. right behind)

found_by : (task : SearchTask) (given : Given) (steps : ℕ) (start : Start) (q : Question) (class : Class) (searched : Searched WrongRun) → BeginsBehind given start q →
    Finds class (offered_by task given steps start.core.value.state) (IsRightFrom start q task given steps) (IsWrongFrom start q task given steps) searched →
    IsSearchedBy task given steps class searched
found_by task given steps start q class (Clean runs cut) behind h =
    clean_by task given steps start.core.value.state class runs cut (behind_first given behind.0 start behind.1.boots behind.2) (record {
      lists = h.lists;
      are_useful = h.are_useful;
      all_cut = h.all_cut;
      are_right = rights_from start q task given steps h.lists h.all_cut behind h.are_right;
      runs_is = h.runs_is;
      cut_is = h.cut_is;
    })
found_by task given steps start q class (Wrong delays what) behind h =
    let u = start.core.value.state in
    let wrong = h.is_wrong behind in
    record {
      start = u;
      is_start = behind_first given behind.0 start behind.1.boots behind.2;
      is_useful = h.is_useful;
      delays = wrong.0;
      delays_are = wrong.1;
      is_run = wrong.2;
      wrong = wrong.3;
      before = right_before task given steps u class (IsWrongFrom start q task given steps) (delays_of delays) what (record {
        is_useful = h.is_useful;
        is_wrong = h.is_wrong;
        before = λ others useful order. (let run = h.before others useful order in (run.0, run.1 behind));
      });
    }

pub searched_by : (task : SearchTask) (given : Given) (steps : ℕ) (start : Start) (q : Question) (class : Class) (result : Result (Searched WrongRun) Fault) →
    BeginsBehind given start q →
    IfOk result (Finds class (offered_by task given steps start.core.value.state) (IsRightFrom start q task given steps) (IsWrongFrom start q task given steps)) →
    IfOk result (IsSearchedBy task given steps class)
searched_by task given steps start q class (Ok searched) behind h = found_by task given steps start q class searched behind h
searched_by task given steps start q class (Err fault) behind h = tt

-- the runs of a class are by turns
pub turns_are : (order : Order) (class : DelayClass) → HasClassLimits order (Some class) → (steps : ℕ) × (order ≡ Turns steps)
turns_are (Turns steps) class h = (steps, refl)
turns_are (Delayed steps delays) class h = absurd h
turns_are (Random seed) class h = absurd h
turns_are (Priorities seed changes within) class h = absurd h

-- what is printed
pub found_listed : (task : SearchTask) (given : Given) (steps : ℕ) (class : Class) (numbers : List ℕ) (wrong : WrongRun) (text : List ℕ) →
    IsFirstBy task given steps class numbers wrong.run wrong.told → IsListed task given numbers wrong text → IsFoundBy task given steps class text
found_listed task given steps class numbers wrong text first listed = record {
  numbers = numbers;
  run = wrong.run;
  told = wrong.told;
  first = first;
  events = listed.events;
  are_printed = listed.are_printed;
  final = listed.final;
  is_told = listed.is_told;
  same_kind = listed.same_kind;
  text_is = listed.text_is;
}
