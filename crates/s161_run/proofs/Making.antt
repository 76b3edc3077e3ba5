use Rattle.std.proofs.Common.{◌≡◌, ◌∙◌, refl, sym, ap, subst, ℕ, zero, suc, ◌+◌, ◌<◌, ◌≤◌, List, [], ◌∷◌, ◌++◌, length, take, drop, replicate, slice_get, slice_set, Bool, true, false, nat_le, Option, None, Some, IsSomeAnd, MatchOption, Result, Ok, Err, append-nil, append_assoc, arith}
use Rattle.std.proofs.Math.Seq.{drop-append_seam}
use Rattle.std.proofs.lemmas.List.{drop-drop, drop-take, length-append, length-drop, length-replicate, map-append, replicate-append-replicate, take-append-drop, take-append-le, take-replicate, take-take}
use Rattle.m161_cpu.specs.declared.processor.Outcome.{Outcome}
use Rattle.m161_machine.specs.declared.event.Conflict.{Conflict}
use Rattle.m161_machine.specs.declared.event.Event.{Event}
use Rattle.m161_machine.specs.declared.event.Event.TheVariants.{Step, Key, Done}
use Rattle.m161_machine.specs.declared.event.Entry.{Entry}
use Rattle.m161_machine.specs.declared.event.Refusal.{Refusal}
use Rattle.m161_isa.specs.Choice.{first_answer}
use Rattle.m161_machine.specs.State.{State, is_worn, next, unless, answer}
use Rattle.m161_machine.specs.History.{events_of, Leads, Refuses}
use Rattle.m161_machine.proofs.Continuing.{refused_as}
use Rattle.m161_machine.proofs.Leading.{leads_on}
use Rattle.m161_drive.specs.Drive.{IsNoted}
use Rattle.s161_run.specs.declared.events.RunStop.{RunStop}
use Rattle.s161_run.specs.Runs.{IsRefusedAt, IsSwitchedOff, MakesEvents, StopsAfter, stop_off}
use Rattle.s161_run.specs.helpers.Events.{EndsAfter, MakesAlike, MakesOf}

-- Runs of events, one after the other.

-- a machine that is off refuses every event
refused_first : (b : Bool) (a : Refusal) (rest : List (Bool × Refusal)) (x : Result (Outcome × State) Refusal) →
    (r : Refusal) × (unless (first_answer ((b, a) ∷ (true, Refusal.Off) ∷ rest)) x ≡ Err r)
refused_first true a rest x = (a, refl)
refused_first false a rest x = (Refusal.Off, refl)

abbrev with_off : Bool → State → Event → Result (Outcome × State) Refusal
with_off off s (Step p) = unless (first_answer ((nat_le (length s.processors) p, Refusal.BadProcessor) ∷ (off, Refusal.Off) ∷ (is_worn s.made, Refusal.Worn) ∷ [])) (answer s (Step p))
with_off off s (Key byte) = unless (first_answer ((off, Refusal.Off) ∷ (is_worn s.made, Refusal.Worn) ∷ [])) (answer s (Key byte))
with_off off s Done = unless (first_answer ((off, Refusal.Off) ∷ (is_worn s.made, Refusal.Worn) ∷ [])) (answer s Done)

next_with : (s : State) (e : Event) → next s e ≡ with_off s.board.off s e
unfolding next
next_with s (Step p) = refl
next_with s (Key byte) = refl
next_with s Done = refl

refused_off : (s : State) (e : Event) → (r : Refusal) × (with_off true s e ≡ Err r)
refused_off s (Step p) = refused_first (nat_le (length s.processors) p) Refusal.BadProcessor ((is_worn s.made, Refusal.Worn) ∷ []) (answer s (Step p))
refused_off s (Key byte) = (Refusal.Off, refl)
refused_off s Done = (Refusal.Off, refl)

on_before : (b : Bool) (s : State) (e : Event) (x : Outcome × State) → s.board.off ≡ b → next s e ≡ Ok x → s.board.off ≡ false
on_before false s e x off r = off
on_before true s e x off r =
    let refused = refused_off s e in
    let first_is : next s e ≡ Err refused.0 = next_with s e ∙ ap (λ b. with_off b s e) off ∙ refused.1 in
    let bad : ◌≡◌ {A = Result (Outcome × State) Refusal} (Err refused.0) (Ok x) = sym first_is ∙ r in
    absurd (cc)

-- a machine of which an event is made was on; where none is made, its state stays
pub switched : (b0 : Bool) (s t : State) (entries : List Entry) → s.board.off ≡ b0 → ¬ (t.board.off ≡ b0) → Leads s entries t →
    (b0 ≡ false) × (t.board.off ≡ true)
switched b0 s t [] is other leads = absurd (other (ap (λ (u : State). u.board.off) leads ∙ is))
switched b0 s t (e ∷ es) is other leads =
    let on : b0 ≡ false = sym is ∙ on_before s.board.off s e.event (e.outcome, leads.0) refl leads.1 in
    (on, by t.board.off refl on)
  where
    by : (b : Bool) → t.board.off ≡ b → b0 ≡ false → b ≡ true
    by true e on = refl
    by false e on = absurd (other (e ∙ sym on))

-- One event, again and again.

pub of_none : (e : Event) (s : State) → MakesOf e s [] s
of_none e s = (refl, refl)

pub of_more : (e : Event) (es fs : List Entry) (s u t : State) → MakesOf e s es u → MakesOf e u fs t → MakesOf e s (es ++ fs) t
of_more e es fs s u t h k = (
  leads_on es fs s u t h.0 k.0,
  map-append (λ (x : Entry). x.event) es fs ∙ (λ i. h.1 i ++ k.1 i) ∙ replicate-append-replicate (length es) (length fs) e
      ∙ ap (λ n. replicate n e) (sym (length-append es fs)),
)

-- once more
pub of_one_more : (e : Event) (es : List Entry) (x : Entry) (s u t : State) → MakesOf e s es u → x.event ≡ e → next u e ≡ Ok (x.outcome, t) →
    MakesOf e s (es ++ x ∷ []) t
of_one_more e es x s u t h is made =
    of_more e es (x ∷ []) s u t h ((t, subst (λ f. next u f ≡ Ok (x.outcome, t)) (sym is) made, refl), (λ i. is i ∷ []))

-- an entry in the next place
pub set_more : (k : ℕ) (es : List Entry) (x : Entry) → k < length es → take (k + 1) (slice_set es k x) ≡ take k es ++ x ∷ []
set_more k [] x less = absurd (omega (arith, less))
set_more zero (e ∷ es) x less = refl
set_more (suc k) (e ∷ es) x less =
    let next_one : suc k + 1 ≡ suc (k + 1) = omega arith in
    ap (λ n. take n (slice_set (e ∷ es) (suc k) x)) next_one ∙ ap (λ l. e ∷ l) (set_more k es x (omega (arith, less)))

-- so far, with what was noted
pub record Again
    {A : Type 0} (has : ℕ → A → List Entry → Type 0) (s : State) (old : A) (e : Event) (made : ℕ) (t : State) (new : A) : Type 0 where
  pub entries : List Entry
  pub made_is : length entries ≡ made
  pub makes : MakesOf e s entries t
  pub noted : IsNoted has old entries new

pub again_none : {A : Type 0} (has : ℕ → A → List Entry → Type 0) (s : State) (notes : A) (e : Event) → Again has s notes e 0 s notes
again_none has s notes e = record {
  entries = [];
  made_is = refl;
  makes = of_none e s;
  noted = λ room so_far h. subst (λ es. has room notes es) (sym (append-nil so_far)) h;
}

pub noted_more : {A : Type 0} (has : ℕ → A → List Entry → Type 0) (old mid new : A) (es fs : List Entry) → IsNoted has old es mid → IsNoted has mid fs new →
    IsNoted has old (es ++ fs) new
noted_more has old mid new es fs h k room before is =
    subst (λ xs. has room new xs) (append_assoc before es fs) (k room (before ++ es) (h room before is))

pub again_more : {A : Type 0} (has : ℕ → A → List Entry → Type 0) (s t u : State) (old mid new : A) (e : Event) (made more : ℕ) (es : List Entry) →
    Again has s old e made t mid → length es ≡ more → MakesOf e t es u → IsNoted has mid es new → Again has s old e (made + more) u new
again_more has s t u old mid new e made more es so_far long makes noted = record {
  entries = so_far.entries ++ es;
  made_is = length-append so_far.entries es ∙ (λ i. so_far.made_is i + long i);
  makes = of_more e so_far.entries es s t u so_far.makes makes;
  noted = noted_more has old mid new so_far.entries es so_far.noted noted;
}

pub again_ends : {A : Type 0} (has : ℕ → A → List Entry → Type 0) (s t : State) (old new : A) (e : Event) (times made : ℕ) (refusal : Option Refusal) →
    Again has s old e made t new → EndsAfter e times t made refusal → MakesAlike has s old e times t new (made, refusal)
again_ends has s t old new e times made refusal so_far ends = record {
  entries = so_far.entries;
  made_is = so_far.made_is;
  makes = so_far.makes;
  noted = so_far.noted;
  ends = ends;
}

-- no more than so many were made
pub at_most_all : (e : Event) (times : ℕ) (t : State) (made : ℕ) (refusal : Option Refusal) → EndsAfter e times t made refusal → made ≤ times
at_most_all e times t made None h = omega (arith, h)
at_most_all e times t made (Some refusal) h = omega (arith, h.0)

-- the answer of Steps
pub ended : (t : State) (e : Event) (n made : ℕ) (refusal : Option Refusal) →
    MatchOption refusal (made ≡ n) (λ r. (made < n) × (next t e ≡ Err r)) →
    MatchOption refusal (made ≡ n) (λ r. (made < n) × Refuses (next t e) e r)
ended t e n made None h = h
ended t e n made (Some refusal) h = (h.0, refused_as (next t e) e refusal h.1)

-- Lists of events.

-- the first of a list's events are made, and noted
pub record Making
    {A : Type 0} (has : ℕ → A → List Entry → Type 0) (s : State) (old : A) (events : List Event) (made : ℕ) (t : State) (new : A) : Type 0 where
  pub entries : List Entry
  pub made_is : length entries ≡ made
  pub leads : Leads s entries t
  pub are_first : events_of entries ≡ take made events
  pub noted : IsNoted has old entries new

pub making_none : {A : Type 0} (has : ℕ → A → List Entry → Type 0) (s : State) (notes : A) (events : List Event) → Making has s notes events 0 s notes
making_none has s notes events = record {
  entries = [];
  made_is = refl;
  leads = refl;
  are_first = refl;
  noted = λ room so_far h. subst (λ es. has room notes es) (sym (append-nil so_far)) h;
}

-- a longer beginning
pub first_more : (events rest : List Event) (made more : ℕ) → rest ≡ drop made events → take made events ++ take more rest ≡ take (made + more) events
first_more events rest made more is =
    ap (λ es. take made events ++ take more es) is
    ∙ ap (λ es. take made events ++ es) (sym (drop-take made more events))
    ∙ ap (λ es. es ++ drop made (take (made + more) events)) (sym (take-take made (made + more) events (omega arith)))
    ∙ take-append-drop made (take (made + more) events)

got_after : (events : List Event) (made k : ℕ) → slice_get (drop made events) k ≡ slice_get events (made + k)
got_after events zero k = let same : k ≡ 0 + k = omega arith in ap (slice_get events) same
got_after [] (suc made) k = refl
got_after (e ∷ events) (suc made) k =
    let same : suc (made + k) ≡ suc made + k = omega arith in
    got_after events made k ∙ ap (slice_get (e ∷ events)) same

pub refused_after : (events rest : List Event) (made k : ℕ) (s : State) (refusal : Refusal) → rest ≡ drop made events →
    IsRefusedAt rest k s refusal → IsRefusedAt events (made + k) s refusal
refused_after events rest made k s refusal is h =
    let P : Option Event → Type 0 = λ x. IsSomeAnd x (λ e. Refuses (next s e) e refusal) in
    subst P (ap (λ es. slice_get es k) is ∙ got_after events made k) h

-- the next events are the same one, this many times, and then others

pub run_taken : (rest after : List Event) (e : Event) (n more : ℕ) → rest ≡ replicate n e ++ after → more ≤ n → take more rest ≡ replicate more e
run_taken rest after e n more run le =
    let long : more ≤ length (replicate n e) = omega (arith, length-replicate n e, le) in
    ap (take more) run ∙ take-append-le more (replicate n e) after long ∙ take-replicate more n e le

-- some of them are made
pub making_more : {A : Type 0} (has : ℕ → A → List Entry → Type 0) (s t u : State) (old mid new : A) (events rest after : List Event) (made times : ℕ)
    (e : Event) (given : ℕ × Option Refusal) → rest ≡ drop made events → rest ≡ replicate times e ++ after →
    Making has s old events made t mid → MakesAlike has t mid e times u new given → Making has s old events (made + given.0) u new
making_more has s t u old mid new events rest after made times e given is run so_far alike =
    let le = at_most_all e times u given.0 given.1 alike.ends in
    let more : events_of alike.entries ≡ take given.0 rest =
    alike.makes.1 ∙ ap (λ n. replicate n e) alike.made_is ∙ sym (run_taken rest after e times given.0 run le) in
    record {
      entries = so_far.entries ++ alike.entries;
      made_is = length-append so_far.entries alike.entries ∙ (λ i. so_far.made_is i + alike.made_is i);
      leads = leads_on so_far.entries alike.entries s t u so_far.leads alike.makes.0;
      are_first =
          map-append (λ (x : Entry). x.event) so_far.entries alike.entries ∙ (λ i. so_far.are_first i ++ more i) ∙ first_more events rest made given.0 is;
      noted = noted_more has old mid new so_far.entries alike.entries so_far.noted alike.noted;
    }

-- and no more are
pub makes_so : {A : Type 0} (has : ℕ → A → List Entry → Type 0) (s t : State) (old new : A) (events : List Event) (made : ℕ) (stop : RunStop) →
    Making has s old events made t new → StopsAfter s events made stop t →
    (entries : List Entry) × MakesEvents s events stop entries t × IsNoted has old entries new
makes_so has s t old new events made stop h why = (
  h.entries,
  record {
    leads = h.leads;
    are_first = subst (λ n. events_of h.entries ≡ take n events) (sym h.made_is) h.are_first;
    why = subst (λ n. StopsAfter s events n stop t) (sym h.made_is) why;
  },
  h.noted,
)

-- they are within the list
pub run_within : (events rest after : List Event) (made times : ℕ) (e : Event) → made ≤ length events → rest ≡ drop made events → rest ≡ replicate times e ++ after → made + times ≤ length events
run_within events rest after made times e le is run =
    omega (arith, le, length-drop made events, ap length is, ap length run, length-append (replicate times e) after, length-replicate times e)

-- and the others come after them
pub run_passed : (events rest after : List Event) (made times : ℕ) (e : Event) → rest ≡ drop made events → rest ≡ replicate times e ++ after → after ≡ drop (made + times) events
run_passed events rest after made times e is run =
    let seam : drop times (replicate times e ++ after) ≡ after =
    ap (λ k. drop k (replicate times e ++ after)) (sym (length-replicate times e)) ∙ drop-append_seam (replicate times e) after in
    sym seam ∙ ap (drop times) (sym run ∙ is) ∙ drop-drop times made events

got_of_run : (after : List Event) (e : Event) (n k : ℕ) → k < n → slice_get (replicate n e ++ after) k ≡ Some e
got_of_run after e zero k lt = absurd (omega (arith, lt))
got_of_run after e (suc n) zero lt = refl
got_of_run after e (suc n) (suc k) lt = got_of_run after e n k (omega (arith, lt))

-- one of them is refused
pub run_refused : (events rest after : List Event) (made more times : ℕ) (e : Event) (s : State) (refusal : Refusal) → rest ≡ drop made events → rest ≡ replicate times e ++ after → more < times →
    Refuses (next s e) e refusal → IsRefusedAt events (made + more) s refusal
run_refused events rest after made more times e s refusal is run lt refused =
    let P : Option Event → Type 0 = λ x. IsSomeAnd x (λ f. Refuses (next s f) f refusal) in
    refused_after events rest made more s refusal is
    (subst P (sym (ap (λ es. slice_get es more) run ∙ got_of_run after e times more lt)) refused)

-- a machine that was switched off stopped by its conflict, if it has one
pub stopped_off : (s t : State) (events : List Event) (made : ℕ) (conflict : Option Conflict) → t.conflict ≡ conflict → IsSwitchedOff s t →
    StopsAfter s events made (stop_off conflict) t
stopped_off s t events made None is off = (off, is)
stopped_off s t events made (Some conflict) is off = (off, is)
