use Rattle.std.proofs.Common.{◌≡◌, ◌∙◌, refl, sym, ap, subst, ℕ, ◌+◌, ◌<◌, ◌≤◌, false, List, ◌++◌, length, take, Option, None, Some, arith}
use Rattle.std.specs.Prelude.{◌≢◌, nat_le}
use Rattle.std.proofs.lemmas.Bool.Decides.{nat_tests}
use Rattle.std.proofs.lemmas.List.{length-append, map-append, take_all}
use Rattle.m161_machine.specs.declared.event.Conflict.{Conflict}
use Rattle.m161_machine.specs.declared.event.Entry.{Entry}
use Rattle.m161_machine.specs.declared.event.Event.{Event}
use Rattle.m161_machine.specs.declared.event.Refusal.{Refusal}
use Rattle.m161_machine.specs.History.{Leads, events_of}
use Rattle.m161_machine.specs.State.{State}
use Rattle.m161_machine.proofs.Leading.{leads_on}
use Rattle.m161_drive.specs.Drive.{Drives, IsNoted}
use Rattle.m161_drive.specs.declared.run.Driven.{Driven}
use Rattle.m161_drive.specs.declared.run.Stop.{Stop as DriveStop}
use Rattle.m161_drive.specs.declared.run.Stop.TheVariants as drive
use Rattle.m161_drive.specs.Policy.{Rules}
use Rattle.s161_run.specs.declared.events.RunStop.{RunStop}
use Rattle.s161_run.specs.declared.events.RunStop.TheVariants.{Off, Conflict as ConflictStop, End, Stuck, Refused}
use Rattle.s161_run.specs.Behind.{Follows, GoesBehind, RefusesFirst, TakesBehind, events_left, told}
use Rattle.s161_run.specs.Runs.{MakesEvents}
use Rattle.s161_run.specs.helpers.Behind.{is_refused_behind}
use Rattle.s161_run.proofs.Logging.{run_leads}
use Rattle.s161_run.proofs.Making.{noted_more}

-- A run by an order behind first events.

-- where not all of the first were made, no more are
pub none_follow : (rules : Rules) (n : ℕ) (stop : RunStop) (first : List Entry) (u : State) → stop ≢ End → Follows rules n stop first u stop first u
none_follow rules n Off first u h = (refl, refl, refl)
none_follow rules n (ConflictStop conflict) first u h = (refl, refl, refl)
none_follow rules n End first u h = absurd (h refl)
none_follow rules n Stuck first u h = (refl, refl, refl)
none_follow rules n (Refused k refusal) first u h = (refl, refl, refl)

-- where all of them were made, the policy's follow
pub goes_on : {A : Type 0} (has : ℕ → A → List Entry → Type 0) (rules : Rules) (n before : ℕ) (s u t : State) (events : List Event) (first : List Entry) (old mid new : A) →
    MakesEvents s events End first u → before ≡ length events → IsNoted has old first mid → (stop : RunStop) →
    (driven : Driven) × (more : List Entry) × Drives rules n u driven more t × (stop ≡ told (before + driven.made) t.conflict driven.stop) × IsNoted has mid more new →
    (entries : List Entry) × GoesBehind rules n s events stop entries t × IsNoted has old entries new
goes_on has rules n before s u t events first old mid new makes all noted stop h =
    let count : before ≡ length first = all ∙ sym makes.why.1 in (
      first ++ h.1,
      record {
        first_stop = End;
        first = first;
        between = u;
        makes = makes;
        follows = (h.0, h.1, h.2, refl, h.3 ∙ ap (λ k. told (k + h.0.made) t.conflict h.0.stop) count);
      },
      noted_more has old mid new first h.1 noted h.4,
    )

-- all of them are accepted
leads_as : (s t u : State) (entries first : List Entry) → Leads s first u → entries ≡ first → t ≡ u → Leads s entries t
leads_as s t u entries first h es is = subst (λ x. Leads s x t) (sym es) (subst (Leads s first) (sym is) h)

leads_by : (rules : Rules) (n : ℕ) (s t u : State) (first_stop stop : RunStop) (first entries : List Entry) → Leads s first u →
    Follows rules n first_stop first u stop entries t → Leads s entries t
leads_by rules n s t u Off stop first entries h f = leads_as s t u entries first h f.1 f.2
leads_by rules n s t u (ConflictStop conflict) stop first entries h f = leads_as s t u entries first h f.1 f.2
leads_by rules n s t u End stop first entries h f =
    subst (λ es. Leads s es t) (sym f.3) (leads_on first f.1 s u t h (run_leads f.2))
leads_by rules n s t u Stuck stop first entries h f = leads_as s t u entries first h f.1 f.2
leads_by rules n s t u (Refused k refusal) stop first entries h f = leads_as s t u entries first h f.1 f.2

pub behind_leads : {rules : Rules} {n : ℕ} {s t : State} {events : List Event} {stop : RunStop} {entries : List Entry} → GoesBehind rules n s events stop entries t →
    Leads s entries t
behind_leads {rules = rules} {n = n} {s = s} {t = t} {stop = stop} {entries = entries} h =
    leads_by rules n s t h.between h.first_stop stop h.first entries h.makes.leads h.follows

-- an event that was refused behind so many has this number
told_refused : (made : ℕ) (conflict : Option Conflict) (stop : DriveStop) (k : ℕ) (why : Refusal) → Refused k why ≡ told made conflict stop → k ≡ made
told_refused made None drive.Off k why h = absurd (cc)
told_refused made (Some conflict) drive.Off k why h = absurd (cc)
told_refused made conflict drive.End k why h = absurd (cc)
told_refused made conflict drive.Stuck k why h = absurd (cc)
told_refused made conflict (drive.Refused refusal) k why h = cc

-- one of the first events is refused
refuses : (rules : Rules) (n : ℕ) (s t u : State) (events : List Event) (first_stop : RunStop) (first entries : List Entry) (k : ℕ) (why : Refusal) →
    MakesEvents s events first_stop first u → Follows rules n first_stop first u (Refused k why) entries t → k < length events → RefusesFirst s events k why
refuses rules n s t u events Off first entries k why makes f less = absurd (let bad = f.0 in cc)
refuses rules n s t u events (ConflictStop conflict) first entries k why makes f less = absurd (let bad = f.0 in cc)
refuses rules n s t u events End first entries k why makes f less =
    let all = makes.why.1 in
    let here = told_refused (length first + f.0.made) t.conflict f.0.stop k why f.4 in
    absurd (omega (arith, less, all, here))
refuses rules n s t u events Stuck first entries k why makes f less = absurd (let bad = f.0 in cc)
refuses rules n s t u events (Refused j refusal) first entries k why makes f less =
    (first, u, subst (λ stop. MakesEvents s events stop first u) (sym f.0) makes)

pub first_refused : {rules : Rules} {n : ℕ} {s t : State} {events : List Event} {k : ℕ} {why : Refusal} {entries : List Entry} →
    GoesBehind rules n s events (Refused k why) entries t → k < length events → RefusesFirst s events k why
first_refused {rules = rules} {n = n} {s = s} {t = t} {events = events} {k = k} {why = why} {entries = entries} h less =
    refuses rules n s t h.between events h.first_stop h.first entries k why h.makes h.follows less

-- where at least as many were made as come first, the first of them are those
all_made : (first : List Entry) (events : List Event) → events_of first ≡ take (length first) events → length events ≤ length first → events_of first ≡ events
all_made first events are le = are ∙ take_all (length first) events le

-- behind them
not_refused : (before made : ℕ) (conflict : Option Conflict) (stop : RunStop) (driven : DriveStop) → stop ≡ told (before + made) conflict driven →
    is_refused_behind stop before ≡ false → (refusal : Refusal) → driven ≢ drive.Refused refusal
not_refused before made conflict stop driven is none refusal h =
    let refused : stop ≡ Refused (before + made) refusal = is ∙ ap (told (before + made) conflict) h in
    let bad : nat_le before (before + made) ≡ false = sym (ap (λ x. is_refused_behind x before) refused) ∙ none in
    grind (arith, nat_tests, bad)

module _ (rules : Rules) (most : ℕ) (s t u : State) (events : List Event) (stop : RunStop) (first entries : List Entry) where
  abbrev n : ℕ
  n = events_left most (length events)

  -- a session has all of the first events
  takes_first : (first_stop : RunStop) → MakesEvents s events first_stop first u → Follows rules n first_stop first u stop entries t →
      length entries < length events → TakesBehind rules most s events events
  takes_first End makes f less =
      let all = makes.why.1 in
      let long = length-append first f.1 in
      let same = ap length f.3 in
      absurd (omega (arith, less, all, long, same))
  takes_first Off makes f less = record { stop = Off; entries = first; between = u; makes = makes; takes = refl }
  takes_first (ConflictStop conflict) makes f less = record { stop = ConflictStop conflict; entries = first; between = u; makes = makes; takes = refl }
  takes_first Stuck makes f less = record { stop = Stuck; entries = first; between = u; makes = makes; takes = refl }
  takes_first (Refused k refusal) makes f less = record { stop = Refused k refusal; entries = first; between = u; makes = makes; takes = refl }

  -- and those that were made behind them
  same_first : (first_stop : RunStop) → MakesEvents s events first_stop first u → entries ≡ first → length events ≤ length entries → events_of entries ≡ events
  same_first first_stop makes is le =
      ap events_of is ∙ all_made first events makes.are_first (let same = ap length is in omega (arith, le, same))

  takes_all : (first_stop : RunStop) → MakesEvents s events first_stop first u → Follows rules n first_stop first u stop entries t →
      is_refused_behind stop (length events) ≡ false → length events ≤ length entries → TakesBehind rules most s events (events_of entries)
  takes_all End makes f none le =
      let all = makes.why.1 in
      let before : length first ≡ length events = all in
      record {
        stop = End;
        entries = first;
        between = u;
        makes = makes;
        takes = (
          f.0,
          f.1,
          t,
          f.2,
          not_refused (length first) f.0.made t.conflict stop f.0.stop f.4 (subst (λ k. is_refused_behind stop k ≡ false) (sym before) none),
          ap events_of f.3 ∙ map-append (λ (e : Entry). e.event) first f.1
              ∙ ap (λ es. es ++ events_of f.1) (all_made first events makes.are_first (omega (arith, before))),
        );
      }
  takes_all Off makes f none le = record { stop = Off; entries = first; between = u; makes = makes; takes = same_first Off makes f.1 le }
  takes_all (ConflictStop conflict) makes f none le =
      record { stop = ConflictStop conflict; entries = first; between = u; makes = makes; takes = same_first (ConflictStop conflict) makes f.1 le }
  takes_all Stuck makes f none le = record { stop = Stuck; entries = first; between = u; makes = makes; takes = same_first Stuck makes f.1 le }
  takes_all (Refused k refusal) makes f none le =
      record { stop = Refused k refusal; entries = first; between = u; makes = makes; takes = same_first (Refused k refusal) makes f.1 le }

pub session_short : {rules : Rules} {most : ℕ} {s t : State} {events : List Event} {stop : RunStop} {entries : List Entry} →
    GoesBehind rules (events_left most (length events)) s events stop entries t → length entries < length events → TakesBehind rules most s events events
session_short {rules = rules} {most = most} {s = s} {t = t} {events = events} {stop = stop} {entries = entries} h less =
    takes_first rules most s t h.between events stop h.first entries h.first_stop h.makes h.follows less

pub session_long : {rules : Rules} {most : ℕ} {s t : State} {events : List Event} {stop : RunStop} {entries : List Entry} →
    GoesBehind rules (events_left most (length events)) s events stop entries t → is_refused_behind stop (length events) ≡ false → length events ≤ length entries →
    TakesBehind rules most s events (events_of entries)
session_long {rules = rules} {most = most} {s = s} {t = t} {events = events} {stop = stop} {entries = entries} h none le =
    takes_all rules most s t h.between events stop h.first entries h.first_stop h.makes h.follows none le
