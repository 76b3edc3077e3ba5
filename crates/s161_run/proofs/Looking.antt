use Rattle.std.specs.List.{All}
use Rattle.std.proofs.Common.{◌≡◌, ◌∙◌, Bool, false, refl, ap, sym, subst, arith, ℕ, ◌+◌, ◌-◌, ◌<◌, ◌≤◌, List, [], ◌∷◌, ◌++◌, append-nil, length, take, drop, get_or}
use Rattle.std.specs.Prelude.{Option, None, Some, slice_get, replicate}
use Rattle.std.proofs.lemmas.List.{drop_more, length-append, length-drop, length-map, length-take, map-append, replicate-append-replicate, take-append-drop, take-take, take_all, take_more}
use Rattle.m161_drive.specs.declared.cursor.Cursor.{Cursor}
use Rattle.m161_drive.specs.Choice.{chosen, cursor_at, taken}
use Rattle.m161_drive.specs.Drive.{Chooses}
use Rattle.m161_drive.specs.Policy.{Rules}
use Rattle.m161_elf.specs.declared.span.Span.{Span}
use Rattle.m161_machine.specs.declared.conf.Conf.{Conf}
use Rattle.m161_machine.specs.declared.event.Entry.{Entry}
use Rattle.m161_machine.specs.declared.event.Event.{Event}
use Rattle.m161_machine.specs.declared.event.Event.TheVariants.{Done}
use Rattle.m161_cpu.specs.declared.processor.Outcome.TheVariants.{Taken}
use Rattle.m161_machine.specs.History.{IsBootState, Leads, entry, events_of}
use Rattle.m161_machine.specs.State.{State, next}
use Rattle.m161_machine.proofs.Made.{conf_stays}
use Rattle.m161_machine.proofs.OneBoot.{booted_as_one}
use Rattle.m161_traps.specs.declared.traps.Trap.{Trap}
use Rattle.m161_traps.specs.Traps.{state_after, state_behind}
use Rattle.m161_traps.specs.Unhandled.{first_unhandled}
use Rattle.m161_traps.specs.declared.watch.Watch.{Watch}
use Rattle.m161_traps.specs.Watching.{IsToFile, IsWatched}
use Rattle.m161_traps.proofs.Looking.{first_before, first_behind, joined_none, joined_some, leads_state, none_unhandled}
use Rattle.m161_elf.specs.Span.{spans}
use Rattle.s161_base.specs.Faults.{BootsIn}
use Rattle.s161_run.specs.Behind.{Follows, GoesBehind}
use Rattle.s161_run.specs.Runs.{MakesEvents}
use Rattle.s161_run.specs.declared.events.RunStop.{RunStop}
use Rattle.s161_run.specs.declared.events.RunStop.TheVariants.{Off, Conflict, End, Stuck, Refused}
use Rattle.s161_run.specs.helpers.Unhandled.{Looks}
use Rattle.s161_run.proofs.Following.{behind_leads}
use Rattle.s161_run.proofs.Logging.{made_is}
use Rattle.s161_run.proofs.Making.{first_more, run_taken}

-- Looking for a trap along the events of a run.

-- its configuration stays
pub boots_still : (file : List ℕ) (conf : Conf) (booted t : State) (es : List Entry) → BootsIn file conf booted → Leads booted es t → BootsIn file t.conf booted
boots_still file conf booted t es boots leads =
    let same : t.conf ≡ conf = conf_stays es booted t leads ∙ ap (λ (s : State). s.conf) boots.1.state_is ∙ boots.1.conf_is in
    subst (λ c. BootsIn file c booted) (sym same) boots

-- so many times the same event

pub alike_more : (k : ℕ) (e : Event) → replicate k e ++ e ∷ [] ≡ replicate (k + 1) e
alike_more k e = replicate-append-replicate k 1 e

pub alike_split : (k n : ℕ) (e : Event) → k < n → (replicate k e ++ e ∷ []) ++ replicate (n - (k + 1)) e ≡ replicate n e
alike_split k n e less =
    let whole : (k + 1) + (n - (k + 1)) ≡ n = omega (arith, less) in
    ap (λ es. es ++ replicate (n - (k + 1)) e) (alike_more k e)
    ∙ replicate-append-replicate (k + 1) (n - (k + 1)) e
    ∙ ap (λ m. replicate m e) whole

-- the first events of a list

pub listed_more : (events rest after : List Event) (made some times : ℕ) (e : Event) → rest ≡ drop made events → rest ≡ replicate times e ++ after → some ≤ times →
    take made events ++ replicate some e ≡ take (made + some) events
listed_more events rest after made some times e is run le =
    ap (λ es. take made events ++ es) (sym (run_taken rest after e times some run le)) ∙ first_more events rest made some is

pub listed_all : (events : List Event) (m n : ℕ) → m ≤ n → take m events ++ drop m (take n events) ≡ take n events
listed_all events m n le =
    ap (λ es. es ++ drop m (take n events)) (sym (take-take m n events le)) ∙ take-append-drop m (take n events)

-- where there are no others
pub listed_end : (events rest : List Event) (made n : ℕ) → made ≤ n → rest ≡ drop made events → rest ≡ [] → take made events ≡ take n events
listed_end events rest made n le is none =
    let size : length events ≤ made = omega (arith, ap length is, ap length none, length-drop made events) in
    take_all made events size ∙ sym (take_all n events (omega (arith, size, le)))

-- the events that a policy chooses

-- it is the first such trap of each run of n events that the policy chooses
abbrev pub IsFirstChosen : Rules → List Span → State → ℕ → Option Trap → Type 0
IsFirstChosen rules spans s n found =
    (entries : List Entry) (d : Cursor) (t : State) → Chooses rules (slice_get rules.keys) (cursor_at rules s) s entries d t → length entries ≡ n →
    found ≡ first_unhandled spans s (events_of entries)

-- of a run of n events that the policy chooses, with a new cursor, from s on, none of the first k is such a
-- trap; they led here, and the others are chosen from here
pub record GoesAlong
    (rules : Rules) (spans : List Span) (s : State) (k : ℕ) (c : Cursor) (u : State) (entries : List Entry) (d : Cursor) (t : State) : Type 0 where
  pub none : first_unhandled spans s (events_of (take k entries)) ≡ None
  pub at : u ≡ state_after s (events_of (take k entries))
  pub rest : Chooses rules (slice_get rules.keys) c u (drop k entries) d t

abbrev pub Along : Rules → List Span → State → ℕ → ℕ → Cursor → State → Type 0
Along rules spans s n k c u =
    (entries : List Entry) (d : Cursor) (t : State) → Chooses rules (slice_get rules.keys) (cursor_at rules s) s entries d t → length entries ≡ n →
    GoesAlong rules spans s k c u entries d t

pub along_begin : (rules : Rules) (spans : List Span) (s : State) (n : ℕ) (c : Cursor) → c ≡ cursor_at rules s → Along rules spans s n 0 c s
along_begin rules spans s n c start = λ entries d t chosen_are long. record {
  none = refl;
  at = refl;
  rest = subst (λ b. Chooses rules (slice_get rules.keys) b s entries d t) (sym start) chosen_are;
}

abbrev some_entry : Entry
some_entry = entry Done Taken

-- the next of them
next_one : (rules : Rules) (c : Cursor) (u : State) (entries : List Entry) (k : ℕ) (d : Cursor) (t : State) → k < length entries →
    Chooses rules (slice_get rules.keys) c u (drop k entries) d t →
    Chooses rules (slice_get rules.keys) c u (get_or entries k some_entry ∷ drop (k + 1) entries) d t
next_one rules c u entries k d t less rest =
    subst (λ es. Chooses rules (slice_get rules.keys) c u es d t) (drop_more entries k some_entry less) rest

same_event : (a b : Event) → ◌≡◌ {A = Option Event} (Some a) (Some b) → a ≡ b
same_event a b h = cc

pub along_stuck : (rules : Rules) (spans : List Span) (s : State) (n k : ℕ) (c : Cursor) (u : State) → k < n → Along rules spans s n k c u →
    (chosen rules c u).0 ≡ None → (entries : List Entry) (d : Cursor) (t : State) → Chooses rules (slice_get rules.keys) (cursor_at rules s) s entries d t →
    length entries ≡ n → None ≡ first_unhandled spans s (events_of entries)
along_stuck rules spans s n k c u less along none entries d t chosen_are long =
    let here = along entries d t chosen_are long in
    let one = next_one rules c u entries k d t (omega (arith, less, long)) here.rest in
    let bad : ◌≡◌ {A = Option Event} None (Some (get_or entries k some_entry).event) = sym none ∙ one.2.choice_is in
    absurd cc

module _ (rules : Rules) (spans : List Span) (s : State) (n k : ℕ) (c : Cursor) (u : State) (event : Event)
    (less : k < n) (along : Along rules spans s n k c u) (choice : (chosen rules c u).0 ≡ Some event) where
  module _ (entries : List Entry) (d : Cursor) (t : State)
      (chosen_are : Chooses rules (slice_get rules.keys) (cursor_at rules s) s entries d t) (long : length entries ≡ n) where
    abbrev e : Entry
    e = get_or entries k some_entry

    within : k < length entries
    within = omega (arith, less, long)

    abbrev here : GoesAlong rules spans s k c u entries d t
    here = along entries d t chosen_are long

    abbrev one : Chooses rules (slice_get rules.keys) c u (e ∷ drop (k + 1) entries) d t
    one = next_one rules c u entries k d t within here.rest

    event_is : event ≡ e.event
    event_is = same_event event e.event (sym choice ∙ one.2.choice_is)

    -- with it
    events_more : events_of (take k entries) ++ event ∷ [] ≡ events_of (take (k + 1) entries)
    events_more =
        ap (λ x. events_of (take k entries) ++ x ∷ []) event_is
        ∙ sym (map-append (λ (x : Entry). x.event) (take k entries) (e ∷ []))
        ∙ ap events_of (sym (take_more entries k some_entry within))

    events_all : (events_of (take k entries) ++ event ∷ []) ++ events_of (drop (k + 1) entries) ≡ events_of entries
    events_all =
        ap (λ es. es ++ events_of (drop (k + 1) entries)) events_more
        ∙ sym (map-append (λ (x : Entry). x.event) (take (k + 1) entries) (drop (k + 1) entries))
        ∙ ap events_of (take-append-drop (k + 1) entries)

    found_at : (trap : Trap) → first_unhandled spans u (event ∷ []) ≡ Some trap → Some trap ≡ first_unhandled spans s (events_of entries)
    found_at trap found =
        sym (joined_some spans s u (events_of (take k entries)) (event ∷ []) (events_of (drop (k + 1) entries)) trap here.none here.at found)
        ∙ ap (first_unhandled spans s) events_all

    goes_on : (b : Cursor) (v : State) → first_unhandled spans u (event ∷ []) ≡ None → v ≡ state_after u (event ∷ []) → b ≡ taken event v (chosen rules c u).1 →
        GoesAlong rules spans s (k + 1) b v entries d t
    goes_on b v none behind took =
        let w = one.1 in
        let same : v ≡ w = behind ∙ ap (λ x. state_behind u (next u x)) event_is ∙ ap (state_behind u) one.2.accepted in
        let cursor : b ≡ one.0 = took ∙ (λ i. taken (event_is i) (same i) (chosen rules c u).1) ∙ sym one.2.cursor_is in
        let more = joined_none spans s u v (events_of (take k entries)) (event ∷ []) here.none here.at none behind in
        record {
          none = sym (ap (first_unhandled spans s) events_more) ∙ more.0;
          at = more.1 ∙ ap (state_after s) events_more;
          rest =
              subst (λ x. Chooses rules (slice_get rules.keys) x v (drop (k + 1) entries) d t) (sym cursor)
              (subst (λ x. Chooses rules (slice_get rules.keys) one.0 x (drop (k + 1) entries) d t) (sym same) one.3);
        }

  pub along_found : (trap : Trap) → first_unhandled spans u (event ∷ []) ≡ Some trap →
      (entries : List Entry) (d : Cursor) (t : State) → Chooses rules (slice_get rules.keys) (cursor_at rules s) s entries d t →
      length entries ≡ n → Some trap ≡ first_unhandled spans s (events_of entries)
  along_found trap found = λ entries d t chosen_are long. found_at entries d t chosen_are long trap found

  pub along_more : (b : Cursor) (v : State) → first_unhandled spans u (event ∷ []) ≡ None → v ≡ state_after u (event ∷ []) → b ≡ taken event v (chosen rules c u).1 →
      Along rules spans s n (k + 1) b v
  along_more b v none behind took = λ entries d t chosen_are long. goes_on entries d t chosen_are long b v none behind took

pub along_end : (rules : Rules) (spans : List Span) (s : State) (n k : ℕ) (c : Cursor) (u : State) → n ≤ k → Along rules spans s n k c u →
    (entries : List Entry) (d : Cursor) (t : State) → Chooses rules (slice_get rules.keys) (cursor_at rules s) s entries d t →
    length entries ≡ n → None ≡ first_unhandled spans s (events_of entries)
along_end rules spans s n k c u all along entries d t chosen_are long =
    sym ((along entries d t chosen_are long).none) ∙ ap (λ es. first_unhandled spans s (events_of es)) (take_all k entries (omega (arith, all, long)))

-- of a run from boot

-- where each trap was to a vector of the file, there is none
pub none_looked : (file : List ℕ) (listed : List Span) (watch : Watch) (leaves : Bool) (booted t : State) (entries : List Entry) → listed ≡ spans file →
    ((so_far : List Entry) → IsWatched watch so_far → leaves ≡ false → All (λ (e : Entry). IsToFile listed e.outcome) so_far) → leaves ≡ false →
    Leads booted entries t → IsWatched watch entries → None ≡ first_unhandled (spans file) booted (events_of entries)
none_looked file listed watch leaves booted t entries is to_file none leads watched =
    sym (none_unhandled (spans file) entries booted t leads
    (subst (λ l. All (λ (e : Entry). IsToFile l e.outcome) entries) is (to_file entries watched none)))

-- all its events are of the list
pub listed_looked : (file : List ℕ) (listed : List Span) (booted again t u : State) (events : List Event) (stop : RunStop) (entries : List Entry) (found : Option Trap) →
    listed ≡ spans file → BootsIn file t.conf booted → IsBootState file t.conf again → MakesEvents booted events stop entries t →
    Looks listed again (take t.made events) u found → found ≡ first_unhandled (spans file) booted (events_of entries)
listed_looked file listed booted again t u events stop entries found is boots anew makes looks =
    let same : again ≡ booted = booted_as_one file t.conf again booted anew boots.1 in
    let count : t.made ≡ length entries = made_is entries booted t (ap (λ (s : State). s.made) boots.1.state_is) makes.leads in
    looks.is_first
    ∙ (λ i. first_unhandled (is i) (same i) (take (count i) events))
    ∙ ap (first_unhandled (spans file) booted) (sym makes.are_first)

-- its events are the first of the list, and those that a policy chose behind them
pub record Splits (rules : Rules) (s : State) (events : List Event) (made : ℕ) (entries : List Entry) (t : State) : Type 0 where
  pub rest : List Entry
  pub between : State
  pub cursor : Cursor
  pub all : events_of entries ≡ take made events ++ events_of rest
  pub behind : length rest ≡ made - length events
  pub leads : between ≡ state_after s (take made events)
  pub chosen_are : Chooses rules (slice_get rules.keys) (cursor_at rules between) between rest cursor t

split_alone : (rules : Rules) (s t u : State) (events : List Event) (why : RunStop) (first entries : List Entry) (made : ℕ) →
    MakesEvents s events why first u → entries ≡ first → t ≡ u → made ≡ length entries → Splits rules s events made entries t
split_alone rules s t u events why first entries made makes is end count =
    let long : made ≡ length first = count ∙ ap length is in
    let firsts : events_of first ≡ take made events = makes.are_first ∙ ap (λ n. take n events) (sym long) in
    let size : length first ≡ length (take made events) = sym (length-map first (λ (e : Entry). e.event)) ∙ ap length firsts in
    record {
      rest = [];
      between = u;
      cursor = cursor_at rules u;
      all = ap events_of is ∙ firsts ∙ sym (append-nil (take made events));
      behind = let few = length-take made events in omega (arith, long, size, few);
      leads = leads_state first s u makes.leads ∙ ap (state_after s) firsts;
      chosen_are = (refl, end);
    }

split_by : (rules : Rules) (n : ℕ) (s t u : State) (events : List Event) (why stop : RunStop) (first entries : List Entry) (made : ℕ) →
    MakesEvents s events why first u → Follows rules n why first u stop entries t → made ≡ length entries → Splits rules s events made entries t
split_by rules n s t u events Off stop first entries made makes f count = split_alone rules s t u events Off first entries made makes f.1 f.2 count
split_by rules n s t u events (Conflict c) stop first entries made makes f count = split_alone rules s t u events (Conflict c) first entries made makes f.1 f.2 count
split_by rules n s t u events Stuck stop first entries made makes f count = split_alone rules s t u events Stuck first entries made makes f.1 f.2 count
split_by rules n s t u events (Refused k refusal) stop first entries made makes f count = split_alone rules s t u events (Refused k refusal) first entries made makes f.1 f.2 count
split_by rules n s t u events End stop first entries made makes f count =
    let more = f.1 in
    let all : length first ≡ length events = makes.why.1 in
    let sum : made ≡ length first + length more = count ∙ ap length f.3 ∙ length-append first more in
    let whole : take made events ≡ events_of first =
    take_all made events (omega (arith, all, sum)) ∙ sym (take_all (length first) events (omega (arith, all))) ∙ sym makes.are_first in
    record {
      rest = more;
      between = u;
      cursor = f.2.cursor;
      all = ap events_of f.3 ∙ map-append (λ (e : Entry). e.event) first more ∙ ap (λ l. l ++ events_of more) (sym whole);
      behind = omega (arith, all, sum);
      leads = leads_state first s u makes.leads ∙ ap (state_after s) (sym whole);
      chosen_are = f.2.chosen_are;
    }

splits : (rules : Rules) (n : ℕ) (file : List ℕ) (booted t : State) (events : List Event) (stop : RunStop) (entries : List Entry) →
    BootsIn file t.conf booted → GoesBehind rules n booted events stop entries t → Splits rules booted events t.made entries t
splits rules n file booted t events stop entries boots goes =
    split_by rules n booted t goes.between events goes.first_stop stop goes.first entries t.made goes.makes goes.follows
    (made_is entries booted t (ap (λ (s : State). s.made) boots.1.state_is) (behind_leads goes))

-- it is among the first ones
pub first_looked : (rules : Rules) (n : ℕ) (file : List ℕ) (listed : List Span) (booted again t u : State) (events : List Event) (stop : RunStop) (entries : List Entry) (trap : Trap) →
    listed ≡ spans file → BootsIn file t.conf booted → IsBootState file t.conf again → GoesBehind rules n booted events stop entries t →
    Looks listed again (take t.made events) u (Some trap) → Some trap ≡ first_unhandled (spans file) booted (events_of entries)
first_looked rules n file listed booted again t u events stop entries trap is boots anew goes looks =
    let same : again ≡ booted = booted_as_one file t.conf again booted anew boots.1 in
    let split = splits rules n file booted t events stop entries boots goes in
    let here : first_unhandled (spans file) booted (take t.made events) ≡ Some trap =
    sym (looks.is_first ∙ (λ i. first_unhandled (is i) (same i) (take t.made events))) in
    sym (ap (first_unhandled (spans file) booted) split.all ∙ first_before (spans file) booted (take t.made events) (events_of split.rest) trap here)

-- or it isn't, and the others are looked at
pub chosen_looked : (rules : Rules) (n : ℕ) (file : List ℕ) (listed : List Span) (booted again t u : State) (events : List Event) (stop : RunStop) (entries : List Entry) (behind : ℕ) (found : Option Trap) →
    listed ≡ spans file → BootsIn file t.conf booted → IsBootState file t.conf again → GoesBehind rules n booted events stop entries t →
    Looks listed again (take t.made events) u None → behind ≡ t.made - length events → IsFirstChosen rules listed u behind found →
    found ≡ first_unhandled (spans file) booted (events_of entries)
chosen_looked rules n file listed booted again t u events stop entries behind found is boots anew goes looks left chosen_first =
    let same : again ≡ booted = booted_as_one file t.conf again booted anew boots.1 in
    let split = splits rules n file booted t events stop entries boots goes in
    let none : first_unhandled (spans file) booted (take t.made events) ≡ None =
    sym (looks.is_first ∙ (λ i. first_unhandled (is i) (same i) (take t.made events))) in
    let at : u ≡ split.between = looks.leads refl ∙ ap (λ (s : State). state_after s (take t.made events)) same ∙ sym split.leads in
    let rest = subst (λ (s : State). Chooses rules (slice_get rules.keys) (cursor_at rules s) s split.rest split.cursor t) (sym at) split.chosen_are in
    chosen_first split.rest split.cursor t rest (split.behind ∙ sym left)
    ∙ (λ i. first_unhandled (is i) (at i) (events_of split.rest))
    ∙ ap (λ (s : State). first_unhandled (spans file) s (events_of split.rest)) split.leads
    ∙ sym (ap (first_unhandled (spans file) booted) split.all ∙ first_behind (spans file) booted (take t.made events) (events_of split.rest) none)
