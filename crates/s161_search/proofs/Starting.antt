use Rattle.std.proofs.Common.{◌≡◌, ◌≢◌, ◌∙◌, refl, ap, sym, subst, ℕ, ◌+◌, Bool, true, false, List, [], ◌∷◌, ◌++◌, length, take, append-nil, arith, Option, None, Some}
use Rattle.std.specs.Prelude.{slice_get}
use Rattle.std.proofs.lemmas.List.{map-append, take_all}
use Rattle.m161_audit.specs.Watch.{AreGood}
use Rattle.m161_drive.specs.declared.cursor.Cursor.{Cursor}
use Rattle.m161_drive.specs.declared.run.Driven.{Driven}
use Rattle.m161_drive.specs.declared.run.Stop.{Stop}
use Rattle.m161_drive.specs.declared.run.Stop.TheVariants as drive
use Rattle.m161_drive.specs.Choice.{cursor_at}
use Rattle.m161_drive.specs.Drive.{Chooses, Drives, Stops}
use Rattle.m161_drive.specs.Policy.{Rules}
use Rattle.m161_judge.specs.declared.run.JudgedRun.{JudgedRun}
use Rattle.m161_judge.specs.Begun.{AreKeysBehind, IsFirstOf, IsRunBehind, keys_in}
use Rattle.m161_judge.specs.Memory.{IsKeptOf}
use Rattle.m161_judge.specs.Run.{is_cut as is_driven_cut}
use Rattle.m161_judge.specs.Verdict.{after, going_on, has_keys}
use Rattle.m161_machine.specs.declared.conf.Conf.{Conf as ConfValue}
use Rattle.m161_machine.specs.declared.event.Conflict.{Conflict as ConflictOf}
use Rattle.m161_machine.specs.declared.event.Entry.{Entry}
use Rattle.m161_machine.specs.declared.event.Event.{Event}
use Rattle.m161_machine.specs.declared.event.Refusal.{Refusal}
use Rattle.m161_machine.specs.History.{IsBootState, Leads, events_of}
use Rattle.m161_machine.specs.State.{State}
use Rattle.m161_order.specs.declared.order.Order.{Order}
use Rattle.s161_command.specs.declared.task.SearchTask.{SearchTask}
use Rattle.s161_run.specs.declared.events.RunStop.{RunStop}
use Rattle.s161_run.specs.declared.events.RunStop.TheVariants.{Off, Conflict, End, Stuck, Refused}
use Rattle.s161_run.specs.Behind.{Follows, GoesBehind, WasAccepted, told}
use Rattle.s161_run.specs.Driven.{rules_of}
use Rattle.s161_run.specs.Runs.{MakesEvents, StopsAfter, stop_off}
use Rattle.s161_search.specs.declared.start.Start.{Start}
use Rattle.s161_search.specs.Given.{AreAllKeys, Given, criteria_of}
use Rattle.s161_search.specs.Runs.{IsBehindFirst, IsRunOf, is_cut, most_of}
use Rattle.s161_search.specs.helpers.Begun.{BeginsAt, IsStarted, MakesFirst}
use Rattle.s161_search.proofs.Booting.{begins}

-- Runs behind the events that come first.

-- where events lead

leads_after : (s t : State) (es : List Entry) → Leads s es t → after s (events_of es) ≡ Some t
leads_after s t [] h = ap (λ x. Some x) (sym h)
leads_after s t (e ∷ es) h = ap (λ r. going_on r (λ v. after v (events_of es))) h.1 ∙ leads_after h.0 t es h.2

some_is_one : (s t : State) → ◌≡◌ {A = Option State} (Some s) (Some t) → s ≡ t
some_is_one s t h = cc

pub started : (given : Given) (s t : State) (start : Start) → AreAllKeys given → MakesFirst given s start.core.value.state start.events.items →
    IsKeptOf (criteria_of given) s start.events.items start.steps → IsFirstOf (criteria_of given) s start.events.items t start.first → IsStarted given s start
started given s t start keys made kept first =
    let u = start.core.value.state in
    let there : after s start.events.items ≡ Some u = ap (after s) made.events_are ∙ leads_after s u made.entries made.makes.leads in
    let same : t ≡ u = some_is_one t u (sym first.leads ∙ there) in
    record {
      are_all = keys;
      made = made;
      kept = kept;
      first_is = subst (λ x. IsFirstOf (criteria_of given) s start.events.items x start.first) same first;
    }

-- first events that lead to a state that is on were all made

all_made : (s u : State) (events : List Event) (entries : List Entry) (stop : RunStop) → StopsAfter s events (length entries) stop u →
    events_of entries ≡ take (length entries) events → WasAccepted stop → u.board.off ≡ false → events_of entries ≡ events
all_made s u events entries Off why first accepted on = absurd (let bad : true ≡ false = sym why.0.1 ∙ on in cc)
all_made s u events entries (Conflict conflict) why first accepted on = absurd (let bad : true ≡ false = sym why.0.1 ∙ on in cc)
all_made s u events entries End why first accepted on = first ∙ take_all (length entries) events (let all = why.1 in omega (arith, all))
all_made s u events entries Stuck why first accepted on = absurd why
all_made s u events entries (Refused k refusal) why first accepted on = absurd (accepted k refusal refl)

-- so the keys that are left are the order's
pub keys_behind : (given : Given) (s : State) (start : Start) (rules : Rules) → rules.keys ≡ given.keys → IsStarted given s start →
    AreKeysBehind (criteria_of given) start.events.items start.core.value.state rules
keys_behind given s start rules keys h = λ on.
    let made = h.made in
    let all = all_made s start.core.value.state given.first made.entries made.stop made.makes.why made.makes.are_first made.accepted on in
    h.are_all ∙ (λ i. keys_in (sym (made.events_are ∙ all) i) ++ sym keys i)

-- where the machine is off, an order chooses none

chooses_none : (rules : Rules) (keys : ℕ → Option ℕ) (es : List Entry) (c d : Cursor) (u t : State) → u.board.off ≡ true → Chooses rules keys c u es d t →
    (es ≡ []) × (t ≡ u)
chooses_none rules keys [] c d u t off h = (refl, h.1)
chooses_none rules keys (e ∷ es) c d u t off h = absurd (let bad : true ≡ false = sym off ∙ h.2.is_on in cc)

never_cut : (rules : Rules) (n made : ℕ) (c : Cursor) (t : State) (stop : Stop) (left : Bool) → t.board.off ≡ true → Stops rules n made c t stop →
    is_driven_cut stop left t ≡ false
never_cut rules n made c t drive.Off left off h = refl
never_cut rules n made c t drive.End left off h = absurd (let bad : true ≡ false = sym off ∙ h.0 in cc)
never_cut rules n made c t drive.Stuck left off h = refl
never_cut rules n made c t (drive.Refused refusal) left off h = refl

-- how a run stops, and that it is cut

abbrev CutAlike : Stop → RunStop → State → Type 0
CutAlike driven stop t = (left : Bool) → is_driven_cut driven left t ≡ is_cut stop left t

off_cut : (conflict : Option ConflictOf) (left : Bool) (t : State) → false ≡ is_cut (stop_off conflict) left t
off_cut None left t = refl
off_cut (Some conflict) left t = refl

told_cut : (made : ℕ) (conflict : Option ConflictOf) (stop : Stop) (t : State) → CutAlike stop (told made conflict stop) t
told_cut made conflict drive.Off t = λ left. off_cut conflict left t
told_cut made conflict drive.End t = λ left. refl
told_cut made conflict drive.Stuck t = λ left. refl
told_cut made conflict (drive.Refused refusal) t = λ left. refl

off_accepted : (conflict : Option ConflictOf) → WasAccepted (stop_off conflict)
off_accepted None k refusal h = absurd (cc)
off_accepted (Some conflict) k refusal h = absurd (cc)

told_accepted : (made : ℕ) (conflict : Option ConflictOf) (stop : Stop) → ((refusal : Refusal) → stop ≢ drive.Refused refusal) → WasAccepted (told made conflict stop)
told_accepted made conflict drive.Off accepted = off_accepted conflict
told_accepted made conflict drive.End accepted = λ k refusal h. absurd (cc)
told_accepted made conflict drive.Stuck accepted = λ k refusal h. absurd (cc)
told_accepted made conflict (drive.Refused why) accepted = λ k refusal h. absurd (accepted why refl)

-- a run behind the first events

record Went (rules : Rules) (n : ℕ) (s : State) (events : List Event) (first more : List Entry) (u : State) (driven : Driven) (t : State) : Type 0 where
  stop : RunStop
  goes : GoesBehind rules n s events stop (first ++ more) t
  at : goes.between ≡ u
  accepted : WasAccepted stop
  cut : CutAlike driven.stop stop t

went_off : (rules : Rules) (n : ℕ) (s u t : State) (events : List Event) (stop : RunStop) (first more : List Entry) (driven : Driven) →
    MakesEvents s events stop first u → WasAccepted stop → u.board.off ≡ true → Drives rules n u driven more t →
    (first ++ more ≡ first → t ≡ u → Follows rules n stop first u stop (first ++ more) t) → ((left : Bool) → is_cut stop left t ≡ false) →
    Went rules n s events first more u driven t
went_off rules n s u t events stop first more driven makes accepted off drives follows cut =
    let none = chooses_none rules (slice_get rules.keys) more (cursor_at rules u) drives.cursor u t off drives.chosen_are in
    let same : first ++ more ≡ first = ap (λ xs. first ++ xs) none.0 ∙ append-nil first in
    let still_off : t.board.off ≡ true = ap (λ (x : State). x.board.off) none.1 ∙ off in
    record {
      stop = stop;
      goes = record { first_stop = stop; first = first; between = u; makes = makes; follows = follows same none.1 };
      at = refl;
      accepted = accepted;
      cut = λ left. never_cut rules n driven.made drives.cursor t driven.stop left still_off drives.stops ∙ sym (cut left);
    }

went : (rules : Rules) (n : ℕ) (s u t : State) (events : List Event) (stop : RunStop) (first more : List Entry) (driven : Driven) →
    MakesEvents s events stop first u → WasAccepted stop → Drives rules n u driven more t → ((refusal : Refusal) → driven.stop ≢ drive.Refused refusal) →
    Went rules n s events first more u driven t
went rules n s u t events Off first more driven makes accepted drives taken =
    went_off rules n s u t events Off first more driven makes accepted makes.why.0.1 drives (λ same there. (refl, same, there)) (λ left. refl)
went rules n s u t events (Conflict conflict) first more driven makes accepted drives taken =
    went_off rules n s u t events (Conflict conflict) first more driven makes accepted makes.why.0.1 drives (λ same there. (refl, same, there)) (λ left. refl)
went rules n s u t events End first more driven makes accepted drives taken = record {
  stop = told (length first + driven.made) t.conflict driven.stop;
  goes = record { first_stop = End; first = first; between = u; makes = makes; follows = (driven, more, drives, refl, refl) };
  at = refl;
  accepted = told_accepted (length first + driven.made) t.conflict driven.stop taken;
  cut = told_cut (length first + driven.made) t.conflict driven.stop t;
}
went rules n s u t events Stuck first more driven makes accepted drives taken = absurd makes.why
went rules n s u t events (Refused k refusal) first more driven makes accepted drives taken = absurd (accepted k refusal refl)

-- its watches are good
pub booted_good : (given : Given) (s : State) → IsBootState given.file given.conf s → ((k : ℕ) → AreGood s.conf.ram given.watches k) → (k : ℕ) → AreGood given.conf.ram given.watches k
booted_good given s boots good =
    let conf : s.conf ≡ given.conf = ap (λ (x : State). x.conf) boots.state_is ∙ boots.conf_is in
    subst (λ (c : ConfValue). (k : ℕ) → AreGood c.ram given.watches k) conf good

-- a run that was made, of an order that begins at the start
pub made_run : (task : SearchTask) (given : Given) (order : Order) (s : State) (start : Start) (rules : Rules) (run : JudgedRun) →
    rules ≡ rules_of (record task.drive { order = order }) given.keys → BeginsAt given s → IsStarted given s start →
    IsRunBehind rules (most_of task given) (criteria_of given) s start.events.items start.core.value.state run →
    (is : IsRunOf task given order run) × (is.goes.between ≡ start.core.value.state)
made_run task given order s start rules run rules_are boots h made =
    let own = rules_of (record task.drive { order = order }) given.keys in
    let u = start.core.value.state in
    let booted = begins given s boots in
    let by_own : IsRunBehind own (most_of task given) (criteria_of given) s start.events.items u run =
    subst (λ r. IsRunBehind r (most_of task given) (criteria_of given) s start.events.items u run) rules_are made in
    let first = h.made in
    let w = went own (most_of task given) s u by_own.state given.first first.stop first.entries by_own.entries by_own.driven first.makes first.accepted
    by_own.drives by_own.accepted in (
      record {
        good = booted_good given s booted h.kept.good;
        booted = s;
        is_booted = booted;
        stop = w.stop;
        entries = first.entries ++ by_own.entries;
        state = by_own.state;
        goes = w.goes;
        accepted = w.accepted;
        events_are =
            by_own.events_are ∙ ap (λ es. es ++ events_of by_own.entries) first.events_are
            ∙ sym (map-append (λ (e : Entry). e.event) first.entries by_own.entries);
        judged = by_own.judged;
        cut = by_own.cut ∙ w.cut (has_keys given.all_keys run.events.items);
      },
      w.at,
    )

-- the start is behind the first events
pub behind_first : (given : Given) (s : State) (start : Start) → BeginsAt given s → IsStarted given s start → IsBehindFirst given start.core.value.state
behind_first given s start boots h = record {
  booted = s;
  is_booted = begins given s boots;
  stop = h.made.stop;
  entries = h.made.entries;
  makes = h.made.makes;
  accepted = h.made.accepted;
}
