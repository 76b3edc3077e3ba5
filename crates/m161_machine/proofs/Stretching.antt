use Rattle.std.proofs.Common.{◌≡◌, ◌∙◌, refl, ap, sym, subst, ℕ, ◌+◌, ◌<◌, ◌≤◌, Bool, true, false, List, [], ◌∷◌, ◌++◌, length, get_or, set, take, drop, Ok, arith}
use Rattle.std.proofs.lemmas.List.{drop-drop, drop-set, get_or-drop, get_or-set_other, get_or_default, length-set, length-take-le, map-append, take_more, take_more_set}
use Rattle.m161_cpu.specs.Processor.{Processor, stopped_processor}
use Rattle.m161_machine.specs.declared.event.Entry.{Entry}
use Rattle.m161_machine.specs.declared.event.Event.{Event}
use Rattle.m161_machine.specs.declared.event.Event.TheVariants.{Step}
use Rattle.m161_machine.specs.History.{Leads, events_of}
use Rattle.m161_machine.specs.State.{State, next, processor_at}
use Rattle.m161_machine.specs.Stretch.{ArePlain, ArePlanned, IsPlain, IsQuiet, IsStretch, planned}
use Rattle.m161_machine.specs.helpers.Stretch.{IsUnderWay}
use Rattle.m161_machine.proofs.Leading.{leads_more}

-- Stretches of Steps.

-- a Step that leaves the board and writes one processor is quiet
pub quiet_by : (p : ℕ) (s t : State) (new : Processor) → t.board ≡ s.board → t.processors ≡ set s.processors p new → IsQuiet p s t
quiet_by p s t new board processors = record {
  board_is = board;
  number_is = ap length processors ∙ length-set s.processors p new;
  others_are = λ q other. ap (processor_at q) processors ∙ get_or-set_other s.processors p q new stopped_processor other;
}

-- one plain Step more
pub plain_more : (p : ℕ) (s u t : State) (es : List Entry) (x : Entry) → ArePlain s es u → x.event ≡ Step p →
    next u (Step p) ≡ Ok (x.outcome, t) → IsPlain p u t → ArePlain s (es ++ x ∷ []) t
plain_more p s u t [] x h is gives plain = (
  p,
  t,
  is,
  subst (λ v. next v (Step p) ≡ Ok (x.outcome, t)) h gives,
  subst (λ v. IsPlain p v t) h plain,
  refl,
)
plain_more p s u t (e ∷ es) x h is gives plain =
    (h.0, h.1, h.2, h.3, h.4, plain_more p h.1 u t es x h.5 is gives plain)

-- a last Step, whatever it is
pub last_stretch : (p : ℕ) (s u t : State) (es : List Entry) (x : Entry) → ArePlain s es u → x.event ≡ Step p →
    next u (Step p) ≡ Ok (x.outcome, t) → IsStretch s (es ++ x ∷ []) t
last_stretch p s u t es x h is gives = record {
  before = es;
  between = u;
  are_plain = h;
  last = x;
  processor = p;
  is_step = is;
  leads = gives;
  entries_are = refl;
}

-- plain Steps are a stretch
pub plain_stretch : (s t : State) (es : List Entry) → ArePlain s es t → 1 ≤ length es → IsStretch s es t
plain_stretch s t [] h some = absurd (let bad : ⊥ = omega (arith, some) in bad)
plain_stretch s t (e ∷ []) h some =
    last_stretch h.0 s s t [] e refl h.2 (subst (λ v. next s (Step h.0) ≡ Ok (e.outcome, v)) (sym h.5) h.3)
plain_stretch s t (e ∷ f ∷ es) h some =
    let rest = plain_stretch h.1 t (f ∷ es) h.5 (omega arith) in
    record {
      before = e ∷ rest.before;
      between = rest.between;
      are_plain = (h.0, h.1, h.2, h.3, h.4, rest.are_plain);
      last = rest.last;
      processor = rest.processor;
      is_step = rest.is_step;
      leads = rest.leads;
      entries_are = ap (λ xs. e ∷ xs) rest.entries_are;
    }

-- Steps that are made in their places.

abbrev pub place_at : List Entry → ℕ → Entry
place_at es k = get_or es k (planned 0)

drop_one : {A : Type 0} (xs ys : List A) (k : ℕ) → drop k xs ≡ drop k ys → drop (k + 1) xs ≡ drop (k + 1) ys
drop_one xs ys k h = sym (drop-drop 1 k xs) ∙ ap (drop 1) h ∙ drop-drop 1 k ys

drop_behind_set : {A : Type 0} (xs : List A) (k : ℕ) (y : A) → k < length xs → drop (k + 1) (set xs k y) ≡ drop (k + 1) xs
drop_behind_set xs k y inside = sym (drop-drop 1 k (set xs k y)) ∙ ap (drop 1) (drop-set xs k y inside)

-- the place of the next one is as it was
pub next_place : (stretch : Bool) (places : List Entry) (s : State) (made : ℕ) (kept : List Entry) (t : State) →
    IsUnderWay stretch places s made kept t → place_at kept made ≡ place_at places made
next_place stretch places s made kept t h =
    let none : made + 0 ≡ made = omega arith in
    ap (place_at kept) (sym none) ∙ sym (get_or-drop made kept 0 (planned 0)) ∙ ap (λ es. place_at es 0) h.behind_is
    ∙ get_or-drop made places 0 (planned 0) ∙ ap (place_at places) none

-- and it names a Step of one of the processors
planned_next : (n : ℕ) (stretch : Bool) (places : List Entry) (s : State) (made : ℕ) (kept : List Entry) (t : State) → ArePlanned n places →
    IsUnderWay stretch places s made kept t → made < length kept → (p : ℕ) × (p < n) × (place_at kept made ≡ planned p)
planned_next n stretch places s made kept t all h inside =
    let long = h.length_is in
    let next = all made (planned 0) (omega (arith, inside, long)) in
    (next.0, next.1, next_place stretch places s made kept t h ∙ next.2)

-- as it is read
pub planned_read : (n : ℕ) (stretch : Bool) (places : List Entry) (s : State) (made : ℕ) (kept : List Entry) (t : State) (d : Entry) →
    ArePlanned n places → IsUnderWay stretch places s made kept t → made < length kept → n ≤ 32 →
    (p : ℕ) × (p < 32) × (get_or kept made d ≡ planned p)
planned_read n stretch places s made kept t d all h inside few =
    let x = planned_next n stretch places s made kept t all h inside in
    let below = x.1 in
    (x.0, omega (arith, below, few), get_or_default kept made d (planned 0) inside ∙ x.2)

is_below : (n p : ℕ) (x : Entry) → (q : ℕ) × (q < n) × (x ≡ planned q) → x ≡ planned p → p < n
is_below n p x h is =
    let events : ◌≡◌ {A = Event} (Step h.0) (Step p) = ap (λ (e : Entry). e.event) (sym h.2 ∙ is) in
    let same : h.0 ≡ p = cc in
    subst (λ k. k < n) same h.1

pub next_is : (n : ℕ) (stretch : Bool) (places : List Entry) (s : State) (made : ℕ) (kept : List Entry) (t : State) (p : ℕ) (d : Entry) →
    ArePlanned n places → IsUnderWay stretch places s made kept t → made < length kept → get_or kept made d ≡ planned p →
    (p < n) × (place_at kept made ≡ planned p)
next_is n stretch places s made kept t p d all h inside read =
    let place : place_at kept made ≡ planned p = get_or_default kept made (planned 0) d inside ∙ read in
    (is_below n p (place_at kept made) (planned_next n stretch places s made kept t all h inside) place, place)

-- one more was made, and these are the entries then
more_events : (places kept after : List Entry) (made p : ℕ) (x : Entry) → made < length places → place_at places made ≡ planned p → x.event ≡ Step p →
    events_of (take made kept) ≡ events_of (take made places) → take (made + 1) after ≡ take made kept ++ x ∷ [] →
    events_of (take (made + 1) after) ≡ events_of (take (made + 1) places)
more_events places kept after made p x inside place is h now =
    ap events_of now
    ∙ map-append (λ (y : Entry). y.event) (take made kept) (x ∷ [])
    ∙ ap (λ (y : Event). events_of (take made kept) ++ y ∷ []) (is ∙ sym (ap (λ (y : Entry). y.event) place))
    ∙ ap (λ (es : List Event). es ++ (place_at places made).event ∷ []) h
    ∙ sym (map-append (λ (y : Entry). y.event) (take made places) (place_at places made ∷ []))
    ∙ ap events_of (sym (take_more places made (planned 0) inside))

-- what of a next Step's being plain is known, where these are a stretch
abbrev IsPlainIn : Bool → ℕ → State → State → Type 0
IsPlainIn stretch p t u = stretch ≡ true → IsPlain p t u

one_more : (stretch goes_on : Bool) (places kept after : List Entry) (made p : ℕ) (x : Entry) (s t u : State) →
    IsUnderWay stretch places s made kept t → made < length places → place_at places made ≡ planned p → x.event ≡ Step p →
    next t (Step p) ≡ Ok (x.outcome, u) → take (made + 1) after ≡ take made kept ++ x ∷ [] →
    drop (made + 1) after ≡ drop (made + 1) places → length after ≡ length places → IsPlainIn goes_on p t u → (goes_on ≡ true → stretch ≡ true) →
    IsUnderWay goes_on places s (made + 1) after u
one_more stretch goes_on places kept after made p x s t u h inside place is gives now behind long plain same = record {
  leads = subst (λ es. Leads s es u) (sym now)
      (leads_more (take made kept) x s t u h.leads (subst (λ e. next t e ≡ Ok (x.outcome, u)) (sym is) gives));
  events_are = more_events places kept after made p x inside place is h.events_are now;
  behind_is = behind;
  length_is = long;
  are_plain = λ on. subst (λ es. ArePlain s es u) (sym now) (plain_more p s t u (take made kept) x (h.are_plain (same on)) is gives (plain on));
}

-- a quiet one, whose entry stands in its place
pub quiet_now : (kept : List Entry) (made p : ℕ) → made < length kept → place_at kept made ≡ planned p →
    take (made + 1) kept ≡ take made kept ++ planned p ∷ []
quiet_now kept made p inside place =
    take_more kept made (planned 0) inside ∙ ap (λ (x : Entry). take made kept ++ x ∷ []) place

pub quiet_made : (stretch goes_on : Bool) (places kept : List Entry) (made p : ℕ) (s t u : State) → IsUnderWay stretch places s made kept t →
    made < length places → place_at kept made ≡ planned p → next t (Step p) ≡ Ok ((planned p).outcome, u) → IsPlainIn goes_on p t u →
    (goes_on ≡ true → stretch ≡ true) → IsUnderWay goes_on places s (made + 1) kept u
quiet_made stretch goes_on places kept made p s t u h inside place gives plain same =
    let here : made < length kept = (let long = h.length_is in omega (arith, long, inside)) in
    one_more stretch goes_on places kept kept made p (planned p) s t u h inside (sym (next_place stretch places s made kept t h) ∙ place) refl gives
    (quiet_now kept made p here place) (drop_one kept places made h.behind_is) h.length_is plain
    same

-- another, whose entry is written
pub other_made : (stretch : Bool) (places kept : List Entry) (made p : ℕ) (x : Entry) (s t u : State) → IsUnderWay stretch places s made kept t →
    made < length places → place_at kept made ≡ planned p → x.event ≡ Step p → next t (Step p) ≡ Ok (x.outcome, u) →
    IsUnderWay false places s (made + 1) (set kept made x) u
other_made stretch places kept made p x s t u h inside place is gives =
    let here : made < length kept = (let long = h.length_is in omega (arith, long, inside)) in
    one_more stretch false places kept (set kept made x) made p x s t u h inside (sym (next_place stretch places s made kept t h) ∙ place) is gives
    (take_more_set kept made x here) (drop_behind_set kept made x here ∙ drop_one kept places made h.behind_is)
    (length-set kept made x ∙ h.length_is) (λ bad. absurd (let no : false ≡ true = bad in cc)) (λ bad. absurd (let no : false ≡ true = bad in cc))

-- a stretch ends with it, whatever it is
pub stretch_made : (stretch : Bool) (places kept after : List Entry) (made p : ℕ) (x : Entry) (s t u : State) →
    IsUnderWay stretch places s made kept t → stretch ≡ true → x.event ≡ Step p → next t (Step p) ≡ Ok (x.outcome, u) →
    take (made + 1) after ≡ take made kept ++ x ∷ [] → IsStretch s (take (made + 1) after) u
stretch_made stretch places kept after made p x s t u h on is gives now =
    subst (λ es. IsStretch s es u) (sym now) (last_stretch p s t u (take made kept) x (h.are_plain on) is gives)

-- or with the last place
pub stretch_filled : (stretch : Bool) (places kept : List Entry) (made : ℕ) (s t : State) → IsUnderWay stretch places s made kept t →
    stretch ≡ true → 1 ≤ made → made ≤ length kept → IsStretch s (take made kept) t
stretch_filled stretch places kept made s t h on some within =
    let long = length-take-le made kept within in plain_stretch s t (take made kept) (h.are_plain on) (omega (arith, long, some))
