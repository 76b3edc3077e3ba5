use Rattle.std.specs.Prelude.{Bool, true, false, if◌then◌else◌, slice_get}
use Rattle.std.proofs.Common.{◌≡◌, ◌∙◌, refl, sym, ap, subst, ℕ, ◌+◌, ◌<◌, ◌≤◌, List, [], ◌++◌, length, arith, append_assoc}
use Rattle.std.proofs.lemmas.List.{append-nil, length-append}
use Rattle.m161_machine.specs.declared.event.Entry.{Entry}
use Rattle.m161_machine.specs.declared.event.Refusal.{Refusal}
use Rattle.m161_machine.specs.State.{State}
use Rattle.m161_drive.specs.declared.cursor.Cursor.{Cursor}
use Rattle.m161_drive.specs.declared.run.Driven.{Driven}
use Rattle.m161_drive.specs.declared.run.Stop.{Stop}
use Rattle.m161_drive.specs.declared.run.Stop.TheVariants.{Off, End, Stuck, Refused}
use Rattle.m161_drive.specs.Policy.{Rules}
use Rattle.m161_drive.specs.Choice.{cursor_at}
use Rattle.m161_drive.specs.Drive.{Chooses, IsNoted, Rests, Stops}
use Rattle.m161_drive.specs.GoingOn.{DrivesOn, GoesOnWhole}
use Rattle.m161_drive.proofs.Driving.{chooses_append, stops_so}

-- Driven runs that go on.

-- the events so far, from a cursor and a state on, with what was noted of them
pub record Continuing
    {A : Type 0} (has : ℕ → A → List Entry → Type 0) (rules : Rules) (from : Cursor) (s : State) (old : A) (made : ℕ) (c : Cursor) (t : State)
    (new : A)
    : Type 0 where
  pub entries : List Entry
  pub made_is : length entries ≡ made
  pub chosen_are : Chooses rules (slice_get rules.keys) from s entries c t
  pub noted : IsNoted has old entries new

pub continuing_none : {A : Type 0} (has : ℕ → A → List Entry → Type 0) (rules : Rules) (from : Cursor) (s : State) (notes : A) →
    Continuing has rules from s notes 0 from s notes
continuing_none has rules from s notes = record {
  entries = [];
  made_is = refl;
  chosen_are = (refl, refl);
  noted = λ room so_far h. subst (λ es. has room notes es) (sym (append-nil so_far)) h;
}

pub continuing_more : {A : Type 0} (has : ℕ → A → List Entry → Type 0) (rules : Rules) (from : Cursor) (s t u : State) (old mid new : A)
    (made more : ℕ) (c d : Cursor) (es : List Entry) → Continuing has rules from s old made c t mid → length es ≡ more →
    Chooses rules (slice_get rules.keys) c t es d u → IsNoted has mid es new → Continuing has rules from s old (made + more) d u new
continuing_more has rules from s t u old mid new made more c d es so_far long turn noted = record {
  entries = so_far.entries ++ es;
  made_is = length-append so_far.entries es ∙ (λ i. so_far.made_is i + long i);
  chosen_are = chooses_append rules (slice_get rules.keys) so_far.entries es from c d s t u so_far.chosen_are turn;
  noted = λ room before h.
      subst (λ xs. has room new xs) (append_assoc before so_far.entries es) (noted room (before ++ so_far.entries) (so_far.noted room before h));
}

-- the whole of it
abbrev pub DrivesOnNoting :
    {A : Type 0} → (ℕ → A → List Entry → Type 0) → Rules → ℕ → Cursor → State → A → ℕ → Stop → State → A → Type 0
DrivesOnNoting has rules n from s old made stop t new =
    (entries : List Entry) × DrivesOn rules n from s (record { made = made; stop = stop }) entries t × IsNoted has old entries new

pub continued_so : {A : Type 0} (has : ℕ → A → List Entry → Type 0) (rules : Rules) (n made : ℕ) (stop : Stop) (from : Cursor) (s t : State)
    (c : Cursor) (old new : A) → made ≤ n → Continuing has rules from s old made c t new → Stops rules n made c t stop →
    DrivesOnNoting has rules n from s old made stop t new
continued_so has rules n made stop from s t c old new few so_far h = (
  so_far.entries,
  record {
    cursor = c;
    made_is = so_far.made_is;
    few = few;
    chosen_are = so_far.chosen_are;
    stops = h;
  },
  so_far.noted,
)

pub rested_on : {A : Type 0} (has : ℕ → A → List Entry → Type 0) (rules : Rules) (n made : ℕ) (stop : Stop) (from : Cursor) (s t u : State)
    (c : Cursor) (old new : A) → made < n → Continuing has rules from s old made c t new → Rests rules (slice_get rules.keys c.typed) c t stop → u ≡ t →
    DrivesOnNoting has rules n from s old made stop u new
rested_on has rules n made stop from s t u c old new less so_far rests same =
    subst (λ x. DrivesOnNoting has rules n from s old made stop x new) (sym same)
    (continued_so has rules n made stop from s t c old new (omega (arith, less)) so_far (stops_so rules n made c t stop less rests))

-- a run of so many events more stops where the run of all of them does
stops_behind : (rules : Rules) (k left n made : ℕ) (c : Cursor) (t : State) (stop : Stop) → k + left ≡ n → Stops rules left made c t stop →
    Stops rules n (k + made) c t stop
stops_behind rules k left n made c t Off is h = h
stops_behind rules k left n made c t End is h = (h.0, let all = h.1 in omega (arith, all, is))
stops_behind rules k left n made c t Stuck is h = ((let less = h.0 in omega (arith, less, is)), h.1)
stops_behind rules k left n made c t (Refused refusal) is h = ((let less = h.0 in omega (arith, less, is)), h.1)

pub on_whole : (rules : Rules) (n : ℕ) (s : State) → GoesOnWhole rules n s
on_whole rules n s c u t es fs left driven begun is on = record {
  cursor = on.cursor;
  made_is = length-append es fs ∙ ap (λ k. length es + k) on.made_is;
  few = let few = on.few in omega (arith, few, is);
  chosen_are = chooses_append rules (slice_get rules.keys) es fs (cursor_at rules s) c on.cursor s u t begun on.chosen_are;
  stops = stops_behind rules (length es) left n driven.made on.cursor t driven.stop is on.stops;
}
