use Rattle.std.proofs.Common.{◌≡◌, ◌∙◌, refl, sym, subst, ℕ, zero, suc, ◌+◌, ◌-◌, ◌<◌, ◌≤◌, Bool, true, false, List, [], ◌∷◌, ◌⊎◌, inl, inr, arith}
use Rattle.std.proofs.lemmas.Bool.Decides.{nat_tests}
use Rattle.std.specs.Prelude.{Option, None, Some, nat_lt, ◌==◌, option_map}
use Rattle.m161_gdb.specs.declared.packet.Kind.{Kind}
use Rattle.m161_gdb.specs.declared.packet.Motion.{Motion}
use Rattle.m161_gdb.specs.declared.stops.Breakpoint.{Breakpoint}
use Rattle.m161_gdb.specs.declared.stops.Watch.{Watch}
use Rattle.m161_gdb.specs.Stops.{StopsValue}
use Rattle.m161_moves.specs.declared.reason.Reason.{Reason}
use Rattle.m161_moves.specs.declared.reason.Reason.TheVariants as reasons
use Rattle.m161_moves.specs.declared.run.Access.{Access}
use Rattle.m161_moves.specs.declared.run.StepSeen.{StepSeen}
use Rattle.m161_moves.specs.Course.{Course}
use Rattle.m161_moves.specs.Moves.{HasBackwards, HasForwards, StepIsTakenBack, backwards_reason, forwards_reason}
use Rattle.m161_moves.specs.Stopping.{break_at, break_of, first_of, first_touched, is_at, is_resumed, is_stepping, kind_at, mark_of, step_of, touch_at, touch_of, when}
use Rattle.m161_moves.proofs.Returning.{returns, touches_here}

-- Each move stops.

abbrev pub Least : {X : Type 0} → (ℕ → Option X) → ℕ → Type 0
Least {X} at from =
    (place : ℕ) × (x : X) × (from ≤ place) × (at place ≡ Some x) × ((other : ℕ) → from ≤ other → other < place → at other ≡ None)

first_or_later : (from other : ℕ) → from ≤ other → (other ≡ from) ⊎ (from + 1 ≤ other)
first_or_later from other h = grind arith

not_first : {X : Type 0} (at : ℕ → Option X) (from place other : ℕ) → at from ≡ None →
    ((k : ℕ) → from + 1 ≤ k → k < place → at k ≡ None) → other < place → (other ≡ from) ⊎ (from + 1 ≤ other) → at other ≡ None
not_first at from place other none rest below (inl is) = subst (λ n. at n ≡ None) (sym is) none
not_first at from place other none rest below (inr later) = rest other later below

least_by : {X : Type 0} (at : ℕ → Option X) (from : ℕ) (here : Option X) → at from ≡ here → (at from ≡ None → Least at (from + 1)) → Least at from
least_by at from (Some x) is later =
    (from, x, omega arith, is, λ other above below. absurd (let bad : ⊥ = omega (arith, above, below) in bad))
least_by at from None is later =
    let rest = later is in
    let above = rest.2 in (
      rest.0,
      rest.1,
      omega (arith, above),
      rest.3,
      λ other more below. not_first at from rest.0 other is rest.4 below (first_or_later from other more),
    )

least_from : {X : Type 0} (at : ℕ → Option X) (gap from end : ℕ) (x : X) → from + gap ≡ end → at end ≡ Some x → Least at from
least_from at zero from end x is some =
    let here : from ≡ end = omega (arith, is) in
    least_by at from (Some x) (subst (λ n. at n ≡ Some x) (sym here) some) (λ none. absurd (let h = subst (λ n. at n ≡ Some x) (sym here) some in let bad : ⊥ = cc (none, h) in bad))
least_from at (suc gap) from end x is some =
    least_by at from (at from) refl (λ none. least_from at gap (from + 1) end x (omega (arith, is)) some)

some_at_end : (a b c : Option Reason) (e : Bool) (others : List (Option Reason)) → e ≡ true →
    (x : Reason) × (first_of (a ∷ b ∷ c ∷ when e (Some reasons.End) ∷ others) ≡ Some x)
some_at_end None None None true others h = (reasons.End, refl)
some_at_end None None None false others h = cc
some_at_end None None (Some c) e others h = (c, refl)
some_at_end None (Some b) c e others h = (b, refl)
some_at_end (Some a) b c e others h = (a, refl)

same_number : (n : ℕ) → (n == n) ≡ true
same_number n = grind (arith, nat_tests)

stops_at_end : (course : Course) (stops : StopsValue) (chosen : List (Option Motion)) (from : ℕ) →
    (x : Reason) × (forwards_reason course stops chosen from course.end ≡ Some x)
unfolding forwards_reason
stops_at_end course stops chosen from =
    some_at_end (when stops.interrupted (Some reasons.Interrupt)) (when (nat_lt from course.end) (mark_of stops course.end))
    (when (nat_lt from course.end) (step_of chosen (course.step (course.end - 1)))) (course.end == course.end)
    (break_of stops chosen (course.step course.end) ∷ touch_of stops chosen (course.step course.end) ∷ []) (same_number course.end)

pub has_forwards : HasForwards
has_forwards course stops chosen from within =
    let last = stops_at_end course stops chosen from in
    let found = least_from (forwards_reason course stops chosen from) (course.end - from) from course.end last.0 (omega (arith, within)) last.1 in
    (found.0, found.1, record { not_before = found.2; why = found.3; least = found.4 })

abbrev pub Greatest : {X : Type 0} → (ℕ → Option X) → ℕ → Type 0
Greatest {X} at from =
    (place : ℕ) × (x : X) × (place ≤ from) × (at place ≡ Some x) × ((other : ℕ) → place < other → other ≤ from → at other ≡ None)

last_or_earlier : (from next other : ℕ) → next ≡ from + 1 → other ≤ next → (other ≡ next) ⊎ (other ≤ from)
last_or_earlier from next other is h = grind arith

not_last : {X : Type 0} (at : ℕ → Option X) (from next place other : ℕ) → at next ≡ None →
    ((k : ℕ) → place < k → k ≤ from → at k ≡ None) → place < other → (other ≡ next) ⊎ (other ≤ from) → at other ≡ None
not_last at from next place other none rest above (inl is) = subst (λ n. at n ≡ None) (sym is) none
not_last at from next place other none rest above (inr earlier) = rest other above earlier

at_itself : {X : Type 0} (at : ℕ → Option X) (from : ℕ) (x : X) → at from ≡ Some x → Greatest at from
at_itself at from x is =
    (from, x, omega arith, is, λ other above below. absurd (let bad : ⊥ = omega (arith, above, below) in bad))

greatest_by : {X : Type 0} (at : ℕ → Option X) (from next : ℕ) (here : Option X) → next ≡ from + 1 → at next ≡ here → Greatest at from → Greatest at next
greatest_by at from next (Some x) more is rest = at_itself at next x is
greatest_by at from next None more is rest =
    let below = rest.2 in (
      rest.0,
      rest.1,
      omega (arith, below, more),
      rest.3,
      λ other above within. not_last at from next rest.0 other is rest.4 above (last_or_earlier from next other more within),
    )

greatest_to : {X : Type 0} (at : ℕ → Option X) (from : ℕ) (x : X) → at 0 ≡ Some x → Greatest at from
greatest_to at zero x some = at_itself at 0 x some
greatest_to at (suc from) x some = greatest_by at from (suc from) (at (suc from)) (omega arith) refl (greatest_to at from x some)

some_at_begin : (a b c d : Option Reason) (others : List (Option Reason)) →
    (x : Reason) × (first_of (a ∷ b ∷ c ∷ d ∷ Some reasons.Begin ∷ others) ≡ Some x)
some_at_begin None None None None others = (reasons.Begin, refl)
some_at_begin None None None (Some d) others = (d, refl)
some_at_begin None None (Some c) d others = (c, refl)
some_at_begin None (Some b) c d others = (b, refl)
some_at_begin (Some a) b c d others = (a, refl)

stops_at_begin : (course : Course) (stops : StopsValue) (chosen : List (Option Motion)) (from : ℕ) →
    (x : Reason) × (backwards_reason course stops chosen from 0 ≡ Some x)
unfolding backwards_reason
stops_at_begin course stops chosen from =
    some_at_begin (when stops.interrupted (Some reasons.Interrupt)) (when (nat_lt 0 from) (mark_of stops 0))
    (when (nat_lt 0 from) (break_of stops chosen (course.step 0))) (when (nat_lt 0 from) (step_of chosen (course.step 0)))
    (touch_of stops chosen (course.step 0) ∷ [])

pub has_backwards : HasBackwards
has_backwards course stops chosen from =
    let first = stops_at_begin course stops chosen from in
    let found = greatest_to (backwards_reason course stops chosen from) from first.0 first.1 in
    (found.0, found.1, record { not_behind = found.2; why = found.3; greatest = found.4 })

-- A Step is taken back.

abbrev pub IsNoStep : Option Reason → Type 0
IsNoStep found = (p : ℕ) → found ≡ Some (reasons.Step p) → ⊥

third_of : (a b c d e f : Option Reason) (p : ℕ) → IsNoStep a → IsNoStep b → IsNoStep d → IsNoStep e → IsNoStep f →
    first_of (a ∷ b ∷ c ∷ d ∷ e ∷ f ∷ []) ≡ Some (reasons.Step p) → c ≡ Some (reasons.Step p)
third_of (Some a) b c d e f p na nb nd ne nf h = absurd (na p h)
third_of None (Some b) c d e f p na nb nd ne nf h = absurd (nb p h)
third_of None None (Some c) d e f p na nb nd ne nf h = h
third_of None None None (Some d) e f p na nb nd ne nf h = absurd (nd p h)
third_of None None None None (Some e) f p na nb nd ne nf h = absurd (ne p h)
third_of None None None None None (Some f) p na nb nd ne nf h = absurd (nf p h)
third_of None None None None None None p na nb nd ne nf h = cc

no_interrupt : (b : Bool) → IsNoStep (when b (Some reasons.Interrupt))
no_interrupt true p h = cc
no_interrupt false p h = cc

no_mark : (b : Bool) → IsNoStep (when b (Some reasons.Mark))
no_mark true p h = cc
no_mark false p h = cc

no_end : (b : Bool) → IsNoStep (when b (Some reasons.End))
no_end true p h = cc
no_end false p h = cc

no_break_by : (q address : ℕ) (kind : Option Kind) → IsNoStep (option_map (λ k. reasons.Break q address k) kind)
no_break_by q address None p h = cc
no_break_by q address (Some kind) p h = cc

no_break_at : (set : List Breakpoint) (q : ℕ) (fetched : Option ℕ) → IsNoStep (break_at set q fetched)
no_break_at set q None p h = cc
no_break_at set q (Some address) p h = no_break_by q address (kind_at set address) p h

no_when : (b : Bool) (found : Option Reason) → IsNoStep found → IsNoStep (when b found)
no_when true found none_is p h = none_is p h
no_when false found none_is p h = cc

no_break : (stops : StopsValue) (chosen : List (Option Motion)) (step : Option StepSeen) → IsNoStep (break_of stops chosen step)
no_break stops chosen None p h = cc
no_break stops chosen (Some step) p h =
    no_when (is_resumed chosen step.processor) (break_at stops.breakpoints step.processor step.fetched)
    (no_break_at stops.breakpoints step.processor step.fetched) p h

no_touch_by : (q : ℕ) (watch : Option Watch) → IsNoStep (option_map (λ w. reasons.Touch q w) watch)
no_touch_by q None p h = cc
no_touch_by q (Some watch) p h = cc

no_touch_at : (set : List Watch) (q : ℕ) (access : Option Access) → IsNoStep (touch_at set q access)
no_touch_at set q None p h = cc
no_touch_at set q (Some access) p h = no_touch_by q (first_touched set access) p h

no_touch : (stops : StopsValue) (chosen : List (Option Motion)) (step : Option StepSeen) → IsNoStep (touch_of stops chosen step)
no_touch stops chosen None p h = cc
no_touch stops chosen (Some step) p h =
    no_when (is_resumed chosen step.processor) (touch_at stops.watches step.processor step.access)
    (no_touch_at stops.watches step.processor step.access) p h

is_third : (course : Course) (stops : StopsValue) (chosen : List (Option Motion)) (from place p : ℕ) →
    forwards_reason course stops chosen from place ≡ Some (reasons.Step p) →
    when (nat_lt from place) (step_of chosen (course.step (place - 1))) ≡ Some (reasons.Step p)
unfolding forwards_reason
is_third course stops chosen from place p h =
    third_of (when stops.interrupted (Some reasons.Interrupt)) (when (nat_lt from place) (mark_of stops place))
    (when (nat_lt from place) (step_of chosen (course.step (place - 1)))) (when (place == course.end) (Some reasons.End))
    (break_of stops chosen (course.step place)) (touch_of stops chosen (course.step place)) p
    (no_interrupt stops.interrupted) (no_when (nat_lt from place) (mark_of stops place) (no_mark (is_at stops.mark place))) (no_end (place == course.end))
    (no_break stops chosen (course.step place)) (no_touch stops chosen (course.step place)) h

less_of : (m n : ℕ) → nat_lt m n ≡ true → m < n
less_of m n h = grind (arith, nat_tests)

was_behind : (b : Bool) (found : Option Reason) (reason : Reason) → when b found ≡ Some reason → (b ≡ true) × (found ≡ Some reason)
was_behind true found reason h = (refl, h)
was_behind false found reason h = cc

-- a Step of p is one that a move back stops at where p makes one
step_back : (chosen back : List (Option Motion)) (step : Option StepSeen) (p : ℕ) → step_of chosen step ≡ Some (reasons.Step p) →
    is_stepping back p ≡ true → step_of back step ≡ Some (reasons.Step p)
step_back chosen back None p h steps = cc
step_back chosen back (Some step) p h steps =
    let was = was_behind (is_stepping chosen step.processor) (Some (reasons.Step step.processor)) (reasons.Step p) h in
    let is : step.processor ≡ p = cc (was.1) in
    subst (λ q. step_of back (Some step) ≡ Some (reasons.Step q)) is (rw (rw (← is) at steps) refl)

some_of_three : (a b c : Option Reason) (x : Reason) → c ≡ Some x → (y : Reason) × (first_of (a ∷ b ∷ c ∷ []) ≡ Some y)
some_of_three (Some a) b c x h = (a, refl)
some_of_three None (Some b) c x h = (b, refl)
some_of_three None None (Some c) x h = (c, refl)
some_of_three None None None x h = cc

only_place : (place other : ℕ) → place - 1 < other → other ≤ place → 0 < place → other ≡ place
only_place place other above below some = omega (arith, above, below, some)

pub step_is_taken_back : StepIsTakenBack
step_is_taken_back course stops now chosen back from place p h steps no_flag untouched =
    let was = was_behind (nat_lt from place) (step_of chosen (course.step (place - 1))) (reasons.Step p) (is_third course stops chosen from place p h.why) in
    let less = less_of from place was.0 in
    let there = step_back chosen back (course.step (place - 1)) p was.1 steps in
    let some = some_of_three (mark_of now (place - 1)) (break_of now back (course.step (place - 1))) (step_of back (course.step (place - 1))) (reasons.Step p) there in (
      place - 1,
      some.0,
      omega (arith, less),
      record {
        not_behind = omega arith;
        why = returns course now back place (place - 1) some.0 no_flag (omega (arith, less)) some.1;
        greatest = λ other above below.
            subst (λ n. backwards_reason course now back place n ≡ None) (sym (only_place place other above below (omega (arith, less))))
            (sym (touches_here course now back place place no_flag (omega (arith, less)) (omega arith)) ∙ untouched);
      },
    )
