use Rattle.std.proofs.Common.{◌≡◌, ◌⊎◌, inl, inr, ap, refl, sym, subst, ℕ, ◌<◌, ◌≤◌, Bool, List, [], ◌∷◌, length, arith}
use Rattle.std.specs.Prelude.{Option, None, Some, slice_get}
use Rattle.m161_delays.specs.declared.search.Class.{Class}
use Rattle.m161_delays.specs.declared.search.Searched.{Searched}
use Rattle.m161_delays.specs.declared.slice.Slice.{Slice}
use Rattle.m161_delays.specs.Lists.{ComesBefore, IsAscendingFrom, IsOf}
use Rattle.m161_delays.specs.Runs.{IsUsefulOf}
use Rattle.m161_delays.specs.Search.{AreClean, Finds, IsFirst}
use Rattle.m161_delays.specs.Slices.{IsSlice}
use Rattle.m161_delays.proofs.Counting.{right_among}
use Rattle.m161_delays.proofs.Implying.{finds_as, slice_as}
use Rattle.m161_delays.proofs.Members.{below_part, from_part}
use Rattle.m161_drive.specs.Choice.{cursor_at}
use Rattle.m161_judge.specs.declared.run.JudgedRun.{JudgedRun}
use Rattle.m161_judge.specs.Memory.{IsKeptOf, StepsMemory}
use Rattle.m161_machine.specs.History.{IsBootState}
use Rattle.m161_machine.specs.State.{State}
use Rattle.m161_order.specs.declared.delays.Delays.{Delays}
use Rattle.m161_order.specs.declared.order.Order.TheVariants.{Turns, Delayed}
use Rattle.m161_order.specs.Delays.{delays_of}
use Rattle.m161_places.specs.Laws.{IsEffective}
use Rattle.m161_places.proofs.Effective.{have_effective_part}
use Rattle.m161_places.proofs.Moving.{run_of_part}
use Rattle.m161_reach.specs.declared.told.Told.{Told}
use Rattle.m161_reach.specs.Told.{TellsRun}
use Rattle.m161_states.specs.Question.{Question}
use Rattle.m161_c.specs.declared.answer.SoughtSlice.{SoughtSlice}
use Rattle.m161_c.specs.declared.seeds.WrongRun.{WrongRun}
use Rattle.m161_c.specs.Delays.{HasRightRun, HasWrongRun, offered_by}
use Rattle.m161_c.specs.Driven.{rules_in}
use Rattle.m161_c.specs.Seeds.{Asked, IsRightBy, IsToldRun}
use Rattle.m161_c.specs.helpers.Listing.{IsRightFrom, IsWrongFrom}
use Rattle.m161_c.specs.helpers.Points.{IsRunFrom}
use Rattle.m161_c.specs.helpers.Seeking.{Begins}
use Rattle.m161_c.specs.Slices.{IsSlicedBy, TellsStop}
use Rattle.m161_c.proofs.Seeking.{told_made}
use Rattle.m161_machine.proofs.OneBoot.{booted_as_one}
use Rattle.m161_c.proofs.Booting.{begun}

-- Every list of a class has the run of a useful one.

-- the delays of a list that have an effect
abbrev Effective : Asked → ℕ → State → List ℕ → List ℕ → Type 0
Effective a steps s all part =
    IsEffective a.events (rules_in a.numbers (Turns steps) a.goal.keys) (slice_get a.goal.keys) (record { steps = steps; made = 0 })
    (cursor_at (rules_in a.numbers (Turns steps) a.goal.keys) s) s all part

effective : (a : Asked) (steps : ℕ) (s : State) (all : List ℕ) → (part : List ℕ) × Effective a steps s all part
effective a steps s all =
    have_effective_part a.events (rules_in a.numbers (Turns steps) a.goal.keys) (slice_get a.goal.keys) (record { steps = steps; made = 0 })
    (cursor_at (rules_in a.numbers (Turns steps) a.goal.keys) s) s all

-- they are of the class too
ascending_any : (from : ℕ) (ns : List ℕ) → IsAscendingFrom from ns → IsAscendingFrom 0 ns
ascending_any from [] h = tt
ascending_any from (n ∷ ns) h = (omega arith, h.1)

part_few : (class : Class) (all part : List ℕ) → IsOf class all → (part ≡ all) ⊎ (length part < length all) → length part ≤ class.most
part_few class all part of (inl same) = let size = ap length same in let few = of.few in omega (arith, size, few)
part_few class all part of (inr shorter) = let few = of.few in omega (arith, shorter, few)

part_useful : (a : Asked) (steps : ℕ) (s : State) (class : Class) (all part : List ℕ) → IsOf class all → Effective a steps s all part →
    IsUsefulOf class (offered_by a steps s) part
part_useful a steps s class all part of h = (
  record {
    few = part_few class all part of (h.is_same_or_shorter (ascending_any class.from all of.ascending));
    ascending = from_part class.from all part of.ascending h.is_ascending h.is_part;
    below = below_part class.within all part of.below h.is_part;
  },
  h.is_useful,
)

-- the run of a part is the run of the list
right_of_part : (a : Asked) (steps : ℕ) (s : State) (all : Delays) (part : List ℕ) (is_cut : Bool) → IsBootState a.file a.conf s →
    Effective a steps s (delays_of all) part → HasRightRun a steps part is_cut → IsRightBy a (Delayed steps all) is_cut
right_of_part a steps s all part is_cut boots h right =
    let delays = right.0 in
    let run = right.2.0 in
    let told = right.2.1 in
    let is = told.is_run in
    let rules = rules_in a.numbers (Turns steps) a.goal.keys in
    let same : is.booted ≡ s = booted_as_one a.file a.conf is.booted s is.is_booted boots in
    let of_part : Effective a steps is.booted (delays_of all) (delays_of delays) =
    subst (λ x. Effective a steps x (delays_of all) (delays_of delays)) (sym same)
    (subst (λ xs. Effective a steps s (delays_of all) xs) (sym right.1) h) in (
      run,
      record {
        is_run = record {
          good = is.good;
          booted = is.booted;
          is_booted = is.is_booted;
          driven = is.driven;
          entries = is.entries;
          state = is.state;
          drives = run_of_part rules a.events steps all delays is.booted is.driven is.entries is.state of_part is.drives is.accepted;
          accepted = is.accepted;
          events_are = is.events_are;
          judged = is.judged;
          cut = is.cut;
        };
        is_told = told.is_told;
      },
      right.2.2,
    )

-- each list of a class
right_each : (a : Asked) (steps : ℕ) (s : State) (class : Class) (all : Delays) → IsBootState a.file a.conf s → IsOf class (delays_of all) →
    ((part : List ℕ) → IsUsefulOf class (offered_by a steps s) part → Effective a steps s (delays_of all) part →
    (is_cut : Bool) × HasRightRun a steps part is_cut) → (is_cut : Bool) × IsRightBy a (Delayed steps all) is_cut
right_each a steps s class all boots of right =
    let found = effective a steps s (delays_of all) in
    let useful = part_useful a steps s class (delays_of all) found.0 of found.1 in
    let run = right found.0 useful found.1 in
    (run.0, right_of_part a steps s all found.0 run.0 boots found.1 run.1)

pub each_right : (a : Asked) (steps : ℕ) (s : State) (class : Class) (runs cut : ℕ) → IsBootState a.file a.conf s →
    AreClean class (offered_by a steps s) (HasRightRun a steps) runs cut → (delays : Delays) → IsOf class (delays_of delays) →
    (is_cut : Bool) × IsRightBy a (Delayed steps delays) is_cut
each_right a steps s class runs cut boots clean delays of =
    right_each a steps s class delays boots of
    (λ part useful h. right_among (HasRightRun a steps) clean.lists clean.all_cut part clean.are_right (clean.are_useful.all part useful))

-- the lists before the first that goes wrong
before_part : (all part first : List ℕ) → (part ≡ all) ⊎ (length part < length all) → ComesBefore all first → ComesBefore part first
before_part all part first (inl same) order = subst (λ xs. ComesBefore xs first) (sym same) order
before_part all part first (inr shorter) (inl less) = inl (omega (arith, shorter, less))
before_part all part first (inr shorter) (inr same) = let long = same.0 in inl (omega (arith, shorter, long))

pub right_before : {W : Type 0} (a : Asked) (steps : ℕ) (s : State) (class : Class) (wrong : List ℕ → W → Type 0) (first : List ℕ) (what : W) →
    IsBootState a.file a.conf s → IsFirst class (offered_by a steps s) (HasRightRun a steps) wrong first what →
    (others : Delays) → IsOf class (delays_of others) → ComesBefore (delays_of others) first → (is_cut : Bool) × IsRightBy a (Delayed steps others) is_cut
right_before a steps s class wrong first what boots found others of order =
    right_each a steps s class others boots of
    (λ part useful h.
    found.before part useful
    (before_part (delays_of others) part first (h.is_same_or_shorter (ascending_any class.from (delays_of others) of.ascending)) order))

-- what was found, from the state at boot on, where this is kept of no Steps
pub finds_from : (a : Asked) (s : State) (q : Question) (kept : StepsMemory) (steps : ℕ) (class : Class) (found : Searched WrongRun) → Begins a s q →
    IsKeptOf a.goal s [] kept → Finds class (offered_by a steps s) (IsRightFrom a s q kept steps) (IsWrongFrom a s q kept steps) found →
    Finds class (offered_by a steps s) (HasRightRun a steps) (HasWrongRun a steps) found
finds_from a s q kept steps class found begins start h =
    finds_as class (offered_by a steps s) (IsRightFrom a s q kept steps) (HasRightRun a steps) (IsWrongFrom a s q kept steps) (HasWrongRun a steps) found
    (λ x b right. right begins start) (λ x w wrong. wrong begins start) h

pub sliced_by : (a : Asked) (s : State) (q : Question) (kept : StepsMemory) (steps : ℕ) (class : Class) (from : List ℕ) (most : ℕ) (slice : Slice WrongRun)
    (told : SoughtSlice) (events : List ℕ) → Begins a s q → IsKeptOf a.goal s [] kept →
    IsSlice class (offered_by a steps s) (IsRightFrom a s q kept steps) (IsWrongFrom a s q kept steps) from most slice →
    TellsStop a slice.runs slice.cut slice.stop told events → IsSlicedBy a steps class from most told events
sliced_by a s q kept steps class from most slice told events begins start h tells = record {
  booted = s;
  is_booted = begun a.file a.conf s begins.boots;
  slice = slice;
  is_slice =
      slice_as class (offered_by a steps s) (IsRightFrom a s q kept steps) (HasRightRun a steps) (IsWrongFrom a s q kept steps) (HasWrongRun a steps) from most
      slice (λ x b right. right begins start) (λ x w wrong. wrong begins start) h;
  is_told = tells;
}

-- what came of one run
pub list_right : (a : Asked) (s : State) (q : Question) (kept : StepsMemory) (steps : ℕ) (delays : Delays) (run : JudgedRun) (told : Option Told) →
    told ≡ None → IsRunFrom a s kept (Delayed steps delays) run → TellsRun a.few q run told →
    IsRightFrom a s q kept steps (delays_of delays) run.is_cut
list_right a s q kept steps delays run told is made tells = λ begins start. (
  delays,
  refl,
  (
    run,
    subst (IsToldRun a (Delayed steps delays) run) is
        (told_made a s q (Delayed steps delays) run told begins (made (begun a.file a.conf s begins.boots) start) tells),
    refl,
  ),
)

pub list_wrong : (a : Asked) (s : State) (q : Question) (kept : StepsMemory) (steps : ℕ) (delays : Delays) (run : JudgedRun) (told : Option Told)
    (what : Told) → told ≡ Some what → IsRunFrom a s kept (Delayed steps delays) run → TellsRun a.few q run told →
    IsWrongFrom a s q kept steps (delays_of delays) (record { run = run; told = what })
list_wrong a s q kept steps delays run told what is made tells = λ begins start. (
  delays,
  refl,
  subst (IsToldRun a (Delayed steps delays) run) is
      (told_made a s q (Delayed steps delays) run told begins (made (begun a.file a.conf s begins.boots) start) tells),
)
