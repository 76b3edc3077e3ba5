use Rattle.std.specs.Prelude.{Option, OnErr, Some, Result, Ok, Err, if◌then◌else◌, Bool, true, false, slice_get, slice_index_or, slice_set}
use Rattle.std.proofs.Common.{◌≡◌, ◌∙◌, refl, sym, ap, subst, ℕ, suc, ◌+◌, ◌<◌, ◌≤◌, List, [], ◌∷◌, ◌++◌, length, take, arith, append_assoc, ◌-◌, ◌⊎◌, inl, inr}
use Rattle.std.proofs.lemmas.List.{append-nil, get_or-take, get_or_push, length-append, length-take-le, take-append-le}
use Rattle.std.proofs.lemmas.List.Elements.{All-cons, All-nil}
use Rattle.m161_machine.specs.declared.event.Entry.{Entry}
use Rattle.m161_machine.specs.declared.event.Event.{Event}
use Rattle.m161_machine.specs.declared.event.Event.TheVariants.{Step}
use Rattle.m161_machine.specs.declared.event.Refusal.{Refusal}
use Rattle.m161_machine.specs.History.{Refuses, events_of}
use Rattle.m161_machine.specs.State.{State, next, refusal}
use Rattle.m161_machine.specs.Stretch.{ArePlanned, IsStretch, planned as planned_step}
use Rattle.m161_drive.specs.declared.cursor.Cursor.{Cursor}
use Rattle.m161_drive.specs.declared.run.Stop.{Stop}
use Rattle.m161_drive.specs.declared.run.Stop.TheVariants.{Off, End, Stuck, Refused}
use Rattle.m161_drive.specs.Policy.{Rules}
use Rattle.m161_drive.specs.Choice.{chosen_with, cursor_at, taken}
use Rattle.m161_drive.specs.Drive.{BeginsRun, Chooses, Drives, Goes, IsNoted, Rests, Stops, Turn}
use Rattle.m161_drive.specs.declared.orders.OrderState.{OrderState}
use Rattle.m161_drive.specs.Ready.{is_ready}
use Rattle.m161_drive.specs.helpers.Drive.{IsPlan, IsRefused, LeavesRoom, MakesChosen, Plans, next_order, with_more_steps}
use Rattle.m161_drive.proofs.Fitting.{order_ready}
use Rattle.m161_drive.proofs.Planned.{ready_there}
use Rattle.m161_drive.proofs.Stretched.{choice_step, step_same, stretched}

-- Driven runs.

-- events behind others
pub chooses_append : (rules : Rules) (keys : ℕ → Option ℕ) (es fs : List Entry) (c b d : Cursor) (s u t : State) →
    Chooses rules keys c s es b u → Chooses rules keys b u fs d t → Chooses rules keys c s (es ++ fs) d t
chooses_append rules keys [] fs c b d s u t h k =
    subst (λ x. Chooses rules keys x s fs d t) h.0 (subst (λ x. Chooses rules keys b x fs d t) h.1 k)
chooses_append rules keys (e ∷ es) fs c b d s u t h k =
    (h.0, h.1, h.2, chooses_append rules keys es fs h.0 b d h.1 u t h.3 k)

-- a run so far, with what was noted of it
pub record Driving
    {A : Type 0} (has : ℕ → A → List Entry → Type 0) (rules : Rules) (s : State) (old : A) (made : ℕ) (c : Cursor) (t : State) (new : A)
    : Type 0 where
  pub entries : List Entry
  pub made_is : length entries ≡ made
  pub chosen_are : Chooses rules (slice_get rules.keys) (cursor_at rules s) s entries c t
  pub noted : IsNoted has old entries new

pub driving_none : {A : Type 0} (has : ℕ → A → List Entry → Type 0) (rules : Rules) (s : State) (notes : A) (c : Cursor) →
    c ≡ cursor_at rules s → Driving has rules s notes 0 c s notes
driving_none has rules s notes c start = record {
  entries = [];
  made_is = refl;
  chosen_are = (start, refl);
  noted = λ room so_far h. subst (λ es. has room notes es) (sym (append-nil so_far)) h;
}

pub driving_more : {A : Type 0} (has : ℕ → A → List Entry → Type 0) (rules : Rules) (s t u : State) (old mid new : A) (made more : ℕ)
    (c d : Cursor) (es : List Entry) → Driving has rules s old made c t mid → length es ≡ more →
    Chooses rules (slice_get rules.keys) c t es d u → IsNoted has mid es new → Driving has rules s old (made + more) d u new
driving_more has rules s t u old mid new made more c d es so_far long turn noted = record {
  entries = so_far.entries ++ es;
  made_is = length-append so_far.entries es ∙ (λ i. so_far.made_is i + long i);
  chosen_are = chooses_append rules (slice_get rules.keys) so_far.entries es (cursor_at rules s) c d s t u so_far.chosen_are turn;
  noted = λ room before h.
      subst (λ xs. has room new xs) (append_assoc before so_far.entries es) (noted room (before ++ so_far.entries) (so_far.noted room before h));
}

-- where it stops
pub stops_so : (rules : Rules) (n made : ℕ) (c : Cursor) (s : State) (stop : Stop) → made < n → Rests rules (slice_get rules.keys c.typed) c s stop →
    Stops rules n made c s stop
stops_so rules n made c s Off less h = h
stops_so rules n made c s End less h = absurd h
stops_so rules n made c s Stuck less h = (less, h)
stops_so rules n made c s (Refused refusal) less h = (less, h)

pub ended_so : (rules : Rules) (n made : ℕ) (c : Cursor) (s : State) (off : Bool) → s.board.off ≡ off → made ≡ n →
    Stops rules n made c s (if off then Off else End)
ended_so rules n made c s true h all = h
ended_so rules n made c s false h all = (h, all)

-- the whole of a run
abbrev pub DrivesNoting : {A : Type 0} → (ℕ → A → List Entry → Type 0) → Rules → ℕ → State → A → ℕ → Stop → State → A → Type 0
DrivesNoting has rules n s old made stop t new =
    (entries : List Entry) × Drives rules n s (record { made = made; stop = stop }) entries t × IsNoted has old entries new

-- a run that stopped behind its last event
pub driven_so : {A : Type 0} (has : ℕ → A → List Entry → Type 0) (rules : Rules) (n made : ℕ) (stop : Stop) (s t : State) (c : Cursor)
    (old new : A) → made ≤ n → Driving has rules s old made c t new → Stops rules n made c t stop →
    DrivesNoting has rules n s old made stop t new
driven_so has rules n made stop s t c old new few so_far h = (
  so_far.entries,
  record {
    cursor = c;
    made_is = so_far.made_is;
    few = few;
    chosen_are = so_far.chosen_are;
    stops = h;
  },
  so_far.noted,
)

-- one that stopped because no event was made
pub rested_so : {A : Type 0} (has : ℕ → A → List Entry → Type 0) (rules : Rules) (n made : ℕ) (stop : Stop) (s t u : State) (c : Cursor)
    (old new : A) → made < n → Driving has rules s old made c t new → Rests rules (slice_get rules.keys c.typed) c t stop → u ≡ t →
    DrivesNoting has rules n s old made stop u new
rested_so has rules n made stop s t u c old new less so_far rests same =
    subst (λ x. DrivesNoting has rules n s old made stop x new) (sym same)
    (driven_so has rules n made stop s t c old new (omega (arith, less)) so_far (stops_so rules n made c t stop less rests))

pub on_err : {A : Type 0} {E : Type 0} {P : Type 0} → (result : Result A E) → P → OnErr result P
on_err (Ok x) h = tt
on_err (Err e) h = h

-- a beginning of a run
pub begun_so : {A : Type 0} (has : ℕ → A → List Entry → Type 0) (rules : Rules) (n made more : ℕ) (s t u : State) (c d : Cursor)
    (old new : A) (es : List Entry) → Driving has rules s old made c t new → length es ≡ more → made + more ≤ n →
    Chooses rules (slice_get rules.keys) c t es d u → BeginsRun rules n s u
begun_so has rules n made more s t u c d old new es so_far long few turn = (
  so_far.entries ++ es,
  d,
  (let sum = length-append so_far.entries es in let first = so_far.made_is in omega (arith, sum, first, long, few)),
  chooses_append rules (slice_get rules.keys) so_far.entries es (cursor_at rules s) c d s t u so_far.chosen_are turn,
)

-- Turns.

pub refused_by : (s : State) (e : Event) (r : Refusal) → refusal s e ≡ Some r → Refuses (next s e) e r
unfolding next
refused_by s e r h = rw h refl

-- a chosen event that was refused
pub refused_so : (rules : Rules) (key : Option ℕ) (c : Cursor) (s : State) (e : Event) (stop : Stop) → s.board.off ≡ false →
    (chosen_with rules key c s).0 ≡ Some e → IsRefused e s stop → Rests rules key c s stop
refused_so rules key c s e Off on choice h = absurd h
refused_so rules key c s e End on choice h = absurd h
refused_so rules key c s e Stuck on choice h = absurd h
refused_so rules key c s e (Refused refusal) on choice h = (on, (e, choice, h))

-- an input of a device, as a turn
pub input_turn : (rules : Rules) (key : Option ℕ) (b c d : Cursor) (s t : State) (e : Event) (places : List Entry) (result : Result ℕ Stop) →
    s.board.off ≡ false → 1 ≤ length places → (chosen_with rules key b s).0 ≡ Some e → c ≡ (chosen_with rules key b s).1 →
    MakesChosen e c s places result d t → Turn rules key b s places result d t
input_turn rules key b c d s t e places (Ok n) on some choice after h =
    let made = h.1 in (
      (let one = h.0 in omega (arith, one)),
      (let one = h.0 in omega (arith, one, some)),
      λ keys next_key. subst (λ es. Chooses rules keys b s es d t) (sym (ap (λ k. take k places) h.0 ∙ made.1)) (
        d,
        t,
        subst (λ k. Goes rules k b s made.0 d t) (sym next_key) (record {
          is_on = on;
          choice_is = choice ∙ ap (λ x. Some x) (sym made.2);
          accepted = ap (next s) made.2 ∙ made.3;
          cursor_is = made.4 ∙ (λ i. taken (sym made.2 i) t (after i));
        }),
        (refl, refl),
      ),
    )
input_turn rules key b c d s t e places (Err stop) on some choice after h =
    (refused_so rules key b s e stop on choice h.0, h.1)

-- the room that a stretch needs
room_behind : (rules : Rules) (key : Option ℕ) (p most n k : ℕ) (c : Cursor) (s : State) (plan : List Entry) → IsPlan c.order p s most plan →
    (most ≡ 1) ⊎ LeavesRoom rules key c s most → k + 1 ≡ n → n ≤ most → length (take most plan) ≡ most →
    (k ≡ 0) ⊎ (is_ready s p ≡ true) × LeavesRoom rules key c s most
room_behind rules key p most n k c s plan planned (inl one) long few whole = inl (omega (arith, one, long, few))
room_behind rules key p most n k c s plan planned (inr room) long few whole = elim planned.goes_on as (λ _. (k ≡ 0) ⊎ (is_ready s p ≡ true) × LeavesRoom rules key c s most) [
  | inl none ↦ inl (let one = ap length planned.places_are ∙ ap (λ (es : List Entry). length (planned_step p ∷ es)) none in omega (arith, one, whole, long, few))
  | inr w ↦ inr (w.0, room)
]

-- a stretch of planned Steps, as a turn
pub stretch_turn : (rules : Rules) (key : Option ℕ) (p n most : ℕ) (b c d : Cursor) (s t : State) (plan places : List Entry) →
    s.board.off ≡ false → (chosen_with rules key b s).0 ≡ Some (Step p) → c ≡ (chosen_with rules key b s).1 →
    IsPlan c.order p s most plan → (most ≡ 1) ⊎ LeavesRoom rules key c s most → 1 ≤ n → n ≤ most → most ≤ length places → most ≤ length plan →
    events_of (take n places) ≡ events_of (take n (take most plan)) → (h : IsStretch s (take n places) t) →
    d ≡ with_more_steps (n - 1) h.processor t c → Turn rules key b s places (Ok n) d t
stretch_turn rules key p n most b c d s t plan places on choice after planned room some few inside size events h cursor =
    let whole_plan = length-take-le most plan size in
    let long : length h.before + 1 ≡ n =
    sym (length-append h.before (h.last ∷ [])) ∙ ap length (sym h.entries_are) ∙ length-take-le n places (omega (arith, few, inside)) in
    let step = choice_step p rules key b s choice in
    let pair : chosen_with rules key b s ≡ (Some (Step p), c) = λ i. (choice i, sym after i) in
    let less : length h.before + 1 ≤ most = omega (arith, long, few) in
    let made : events_of (h.before ++ h.last ∷ []) ≡ Step p ∷ events_of (take (length h.before) planned.rest) =
    ap events_of (sym h.entries_are) ∙ events
    ∙ (λ i. events_of (take (sym long i) (planned.places_are i)))
    ∙ (let one : length h.before + 1 ≡ suc (length h.before) = omega arith in ap (λ k. events_of (take k (planned_step p ∷ planned.rest))) one) in
    let whole : with_more_steps (length h.before) h.processor t c ≡ d =
    (let n_is : length h.before ≡ n - 1 = omega (arith, long) in ap (λ k. with_more_steps k h.processor t c) n_is) ∙ sym cursor in (
      some,
      omega (arith, few, inside),
      λ keys next_key. subst (λ x. Chooses rules keys b s (take n places) x t) whole
          (subst (λ es. Chooses rules keys b s es (with_more_steps (length h.before) h.processor t c) t) (sym h.entries_are)
          (stretched rules keys key p h.processor h.before h.last planned.rest planned.end most b c s h.between t on pair next_key
          (ap (λ (x : Cursor). x.typed) after ∙ step.1) (ap (λ (x : Cursor). x.last) after ∙ step.0)
          (room_behind rules key p most n (length h.before) c s plan planned room long few whole_plan) less planned.plans made h.are_plain h.is_step h.leads)),
    )

-- the processor of the last Step of a stretch
last_at : (es : List Entry) (x : Entry) (fs : List Entry) (n : ℕ) (d : Entry) → es ≡ fs ++ x ∷ [] → length fs ≡ n → slice_index_or es n d ≡ x
last_at es x fs n d is long = ap (λ ys. slice_index_or ys n d) is ∙ get_or_push fs x d n long

pub last_of : (s t : State) (places : List Entry) (n : ℕ) (d : Entry) → 1 ≤ n → n ≤ length places → (h : IsStretch s (take n places) t) →
    (q : ℕ) → (slice_index_or places (n - 1) d).event ≡ Step q → q ≡ h.processor
last_of s t places n d some within h q is =
    let long : length h.before + 1 ≡ n =
    sym (length-append h.before (h.last ∷ [])) ∙ ap length (sym h.entries_are) ∙ length-take-le n places within in
    let number : length h.before ≡ n - 1 = omega (arith, long) in
    let there : slice_index_or places (n - 1) d ≡ h.last =
    sym (get_or-take n places (n - 1) d (omega (arith, some))) ∙ last_at (take n places) h.last h.before (n - 1) d h.entries_are number in
    step_same q h.processor (sym is ∙ ap (λ (e : Entry). e.event) there ∙ h.is_step)

-- an entry in the first place
pub first_set : (es : List Entry) (x : Entry) → 1 ≤ length es → take 1 (slice_set es 0 x) ≡ x ∷ []
first_set [] x some = absurd (let bad : ⊥ = omega (arith, some) in bad)
first_set (e ∷ es) x some = refl

-- the planned Steps are of processors that are there
plans_there : (o : OrderState) (last : ℕ) (s : State) (es : List Entry) (q : ℕ) → Plans o last s es q → ArePlanned (length s.processors) es
plans_there o last s [] q h = All-nil (λ (e : Entry). (p : ℕ) × (p < length s.processors) × (e ≡ planned_step p))
plans_there o last s (e ∷ es) q h =
    All-cons (λ (e : Entry). (p : ℕ) × (p < length s.processors) × (e ≡ planned_step p)) e es
    (h.0, ready_there s h.0 (order_ready o (Some last) s h.0 (ap (λ (x : Option ℕ × OrderState). x.0) h.2)), h.1)
    (plans_there (next_order o) h.0 s es q h.3)

pub plan_there : (o : OrderState) (p n : ℕ) (s : State) (plan : List Entry) → p < length s.processors → IsPlan o p s n plan →
    ArePlanned (length s.processors) (take n plan)
plan_there o p n s plan here h =
    subst (ArePlanned (length s.processors)) (sym h.places_are)
    (All-cons (λ (e : Entry). (p : ℕ) × (p < length s.processors) × (e ≡ planned_step p)) (planned_step p) h.rest (p, here, refl)
    (plans_there o p s h.rest h.end h.plans))

-- the first entries of a longer list
pub take_front : (n : ℕ) (es fs : List Entry) → n ≤ length es → take n (es ++ fs) ≡ take n es
take_front n es fs h = take-append-le n es fs h
