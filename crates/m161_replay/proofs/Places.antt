use Rattle.std.proofs.Common.{◌≡◌, ◌∙◌, refl, sym, ap, subst, ℕ, suc, ◌+◌, ◌≤◌, ◌<◌, arith, append_assoc, ◌⊎◌, inl, inr, Bool, true, false, List, [], ◌∷◌, ◌++◌, length, take, drop, get_or, slice_index_or, Option, None, Some, Result, Ok, Err, slice_get}
use Rattle.std.specs.Prelude.{min, not, ◌==◌, option_and_then}
use Rattle.std.proofs.lemmas.Bool.Decides.{nat_tests}
use Rattle.std.proofs.lemmas.List.{append-nil, at_drop_more, drop_all, length-map, take_more}
use Rattle.std.proofs.lemmas.Option.{get_or_from_slice_get, slice_get_cases, slice_get_within}
use Rattle.m161_cpu.specs.declared.processor.Outcome.{Outcome}
use Rattle.m161_machine.specs.declared.event.Event.{Event}
use Rattle.m161_machine.specs.declared.event.Event.TheVariants as events
use Rattle.m161_machine.specs.declared.event.Refusal.{Refusal}
use Rattle.m161_cpu.specs.Processor.{Processor}
use Rattle.m161_machine.specs.State.{State, answer, counts, next, refusal, unless}
use Rattle.m161_machine.proofs.Counting.{counts_law}
use Rattle.m161_machine.proofs.Counted.{same_length}
use Rattle.m161_moves.specs.Course.{Course}
use Rattle.m161_moves.specs.Threads.{last_processor, processor_or}
use Rattle.m161_replay.specs.Seen.{step_seen}
use Rattle.m161_replay.specs.Replays.{after, along, counted, course_of, event_seen, line_by, number_made, seen_by, state_at, trace_from}
use Rattle.m161_replay.specs.helpers.Over.{is_accepted, is_over}
use Rattle.m161_replay.specs.Standing.{IsAt}
use Rattle.m161_replay.specs.helpers.Standing.{last_after}

-- Places of a run.

-- what is seen of an event

pub step_unseen : (p : ℕ) (s : State) (r : Refusal) → refusal s (events.Step p) ≡ Some r → None ≡ event_seen s (events.Step p)
unfolding next
step_unseen p s r h = sym (ap (λ x. seen_by p s (unless x (answer s (events.Step p)))) h)

pub step_is_seen : (p : ℕ) (s : State) → refusal s (events.Step p) ≡ None → Some (step_seen p s) ≡ event_seen s (events.Step p)
unfolding next
step_is_seen p s h = sym (ap (λ x. seen_by p s (unless x (answer s (events.Step p)))) h)

last_step : (e : Event) (s : State) (o : Outcome) (t : State) (last : ℕ) → next s e ≡ Ok (o, t) → processor_or (event_seen s e) last ≡ last_after e last
unfolding step_seen
last_step (events.Step p) s o t last h = ap (λ x. processor_or (seen_by p s x) last) h
last_step (events.Key byte) s o t last h = refl
last_step events.Done s o t last h = refl

-- along a list

along_append : (s : State) (front back : List Event) → along s (front ++ back) ≡ along (along s front) back
along_append s [] back = refl
along_append s (e ∷ front) back = along_append (after s (next s e)) front back

rest_is : (list : List Event) (place : ℕ) (e : Event) → slice_get list place ≡ Some e → drop place list ≡ e ∷ drop (place + 1) list
rest_is list place e is =
    at_drop_more (λ l. l) list place e (slice_get_within list place e is) ∙ ap (λ x. x ∷ drop (place + 1) list) (get_or_from_slice_get list place e e is)

front_is : (list : List Event) (place : ℕ) (e : Event) → slice_get list place ≡ Some e → take (place + 1) list ≡ take place list ++ e ∷ []
front_is list place e is =
    take_more list place e (slice_get_within list place e is) ∙ ap (λ x. take place list ++ x ∷ []) (get_or_from_slice_get list place e e is)

pub state_next : (start : State) (list : List Event) (place : ℕ) (e : Event) (o : Outcome) (t : State) → slice_get list place ≡ Some e → next (state_at start list place) e ≡ Ok (o, t) →
    t ≡ state_at start list (place + 1)
state_next start list place e o t is made =
    sym (ap (along start) (front_is list place e is) ∙ along_append start (take place list) (e ∷ []) ∙ ap (after (state_at start list place)) made)

step_is : (start : State) (list : List Event) (place : ℕ) (e : Event) (s : State) → s ≡ state_at start list place → slice_get list place ≡ Some e →
    (course_of start list).step place ≡ event_seen s e
step_is start list place e s at is =
    ap (option_and_then (event_seen (state_at start list place))) is ∙ ap (λ x. event_seen x e) (sym at)

count_next : (s : State) (list : List Event) (place : ℕ) (e : Event) → slice_get list place ≡ Some e →
    number_made s (drop place list) ≡ counted (next s e) (λ t. number_made t (drop (place + 1) list))
count_next s list place e is = ap (number_made s) (rest_is list place e is)

-- one place on

last_next : (course : Course) (place : ℕ) → last_processor course (place + 1) ≡ processor_or (course.step place) (last_processor course place)
last_next course place =
    let one : place + 1 ≡ suc place = omega arith in
    ap (last_processor course) one

one_on : (m n place : ℕ) → m ≡ place + (n + 1) → m ≡ place + 1 + n
one_on m n place h = omega (arith, h)

pub is_at_next : (start : State) (list : List Event) (place last : ℕ) (s : State) (e : Event) (o : Outcome) (t : State) → IsAt start list place last s → slice_get list place ≡ Some e →
    next s e ≡ Ok (o, t) → IsAt start list (place + 1) (last_after e last) t
is_at_next start list place last s e o t at is made =
    let course = course_of start list in
    let count : number_made s (drop place list) ≡ number_made t (drop (place + 1) list) + 1 =
    count_next s list place e is ∙ ap (λ x. counted x (λ u. number_made u (drop (place + 1) list))) made in
    let step : course.step place ≡ event_seen s e = step_is start list place e s at.state_is is in
    record {
      state_is = state_next start list place e o t is (ap (λ x. next x e) (sym at.state_is) ∙ made);
      end_is = one_on (number_made start list) (number_made t (drop (place + 1) list)) place (at.end_is ∙ ap (λ n. place + n) count);
      last_is = sym (last_step e s o t last made) ∙ ap (processor_or (event_seen s e)) at.last_is
          ∙ ap (λ x. processor_or x (last_processor course place)) (sym step) ∙ sym (last_next course place);
      within = let lt = slice_get_within list place e is in omega (arith, lt);
    }

none_more : (n : ℕ) → n ≡ 0 + n
none_more n = omega arith

pub is_at_start : (start : State) (list : List Event) → IsAt start list 0 0 start
is_at_start start list = record { state_is = refl; end_is = none_more (number_made start list); last_is = refl; within = omega arith }

-- whether an event comes

none_left : (s : State) (list : List Event) (place : ℕ) → slice_get list place ≡ None → number_made s (drop place list) ≡ 0
none_left s list place none = ap (number_made s) (drop_all place list (by_cases (slice_get_cases list place).1))
  where
    by_cases : (((x : Event) × (place < length list) × (slice_get list place ≡ Some x) × (get_or list place x ≡ x)) ⊎ ((length list ≤ place) × (slice_get list place ≡ None))) → length list ≤ place
    by_cases (inl there) = absurd (let bad : ◌≡◌ {A = Option Event} None (Some there.0) = sym none ∙ there.2 in cc)
    by_cases (inr past) = past.0

refused_left : (s : State) (list : List Event) (place : ℕ) (e : Event) (r : Refusal) → slice_get list place ≡ Some e → next s e ≡ Err r → number_made s (drop place list) ≡ 0
refused_left s list place e r is refused = count_next s list place e is ∙ ap (λ x. counted x (λ u. number_made u (drop (place + 1) list))) refused

some_left : (s : State) (list : List Event) (place : ℕ) (e : Event) (o : Outcome) (t : State) → slice_get list place ≡ Some e → next s e ≡ Ok (o, t) →
    number_made s (drop place list) ≡ number_made t (drop (place + 1) list) + 1
some_left s list place e o t is made = count_next s list place e is ∙ ap (λ x. counted x (λ u. number_made u (drop (place + 1) list))) made

-- the next event is accepted
pub record Accepts (s : State) (list : List Event) (place : ℕ) : Type 0 where
  pub event : Event
  pub outcome : Outcome
  pub state : State
  pub event_is : slice_get list place ≡ Some event
  pub made : next s event ≡ Ok (outcome, state)

left_by : (s : State) (list : List Event) (place : ℕ) (e : Event) (x : Result (Outcome × State) Refusal) → slice_get list place ≡ Some e → next s e ≡ x → 0 < number_made s (drop place list) → Accepts s list place
left_by s list place e (Err r) is h some = absurd (let n = refused_left s list place e r is h in let bad : ⊥ = omega (arith, n, some) in bad)
left_by s list place e (Ok made) is h some = record { event = e; outcome = made.0; state = made.1; event_is = is; made = h }

left : (s : State) (list : List Event) (place : ℕ) (here : Option Event) → slice_get list place ≡ here → 0 < number_made s (drop place list) → Accepts s list place
left s list place None is some = absurd (let n = none_left s list place is in let bad : ⊥ = omega (arith, n, some) in bad)
left s list place (Some e) is some = left_by s list place e (next s e) is refl some

pub accepts : (start : State) (list : List Event) (place last : ℕ) (s : State) → IsAt start list place last s → place < number_made start list → Accepts s list place
accepts start list place last s at lt =
    let end = at.end_is in
    left s list place (slice_get list place) refl (omega (arith, end, lt))

-- the event by its place in the list
pub indexed : (s : State) (list : List Event) (place : ℕ) (d : Event) (a : Accepts s list place) → slice_index_or list place d ≡ a.event
indexed s list place d a = get_or_from_slice_get list place a.event d a.event_is

pub goes_on : (start : State) (list : List Event) (place last : ℕ) (s : State) (d : Event) → Accepts s list place → (o : Outcome) (t : State) (more later : ℕ) → IsAt start list place last s →
    next s (slice_index_or list place d) ≡ Ok (o, t) → more ≡ place + 1 → later ≡ last_after (slice_index_or list place d) last → IsAt start list more later t
goes_on start list place last s d a o t more later at made one behind =
    let here : slice_get list place ≡ Some (slice_index_or list place d) = a.event_is ∙ ap (λ e. Some e) (sym (indexed s list place d a)) in
    subst (λ n. IsAt start list n later t) (sym one)
    (subst (λ n. IsAt start list (place + 1) n t) (sym behind) (is_at_next start list place last s (slice_index_or list place d) o t at here made))

-- the end: no event comes, or it is refused

over_none : (s : State) (list : List Event) (place : ℕ) (here : Option Event) → slice_get list place ≡ here → is_over s here ≡ true → number_made s (drop place list) ≡ 0
over_none s list place None is over = none_left s list place is
over_none s list place (Some e) is over = over_refused s list place e (next s e) is refl over
  where
    over_refused : (s : State) (list : List Event) (place : ℕ) (e : Event) (x : Result (Outcome × State) Refusal) → slice_get list place ≡ Some e → next s e ≡ x → not (is_accepted x) ≡ true →
        number_made s (drop place list) ≡ 0
    over_refused s list place e (Err r) is h over = refused_left s list place e r is h
    over_refused s list place e (Ok made) is h over = absurd (let bad : false ≡ true = over in cc)

over_some : (s : State) (list : List Event) (place : ℕ) (here : Option Event) → slice_get list place ≡ here → is_over s here ≡ false → 0 < number_made s (drop place list)
over_some s list place None is over = absurd (let bad : true ≡ false = over in cc)
over_some s list place (Some e) is over = over_made s list place e (next s e) is refl over
  where
    over_made : (s : State) (list : List Event) (place : ℕ) (e : Event) (x : Result (Outcome × State) Refusal) → slice_get list place ≡ Some e → next s e ≡ x → not (is_accepted x) ≡ false →
        0 < number_made s (drop place list)
    over_made s list place e (Err r) is h over = absurd (let bad : true ≡ false = over in cc)
    over_made s list place e (Ok made) is h over = let n = some_left s list place e made.0 made.1 is h in omega (arith, n)

end_by : (start : State) (list : List Event) (place last : ℕ) (s : State) (over : Bool) → IsAt start list place last s → is_over s (slice_get list place) ≡ over →
    over ≡ (min place (number_made start list) == number_made start list)
end_by start list place last s true at over =
    let none = over_none s list place (slice_get list place) refl over in
    let end = at.end_is in
    sym (grind (arith, nat_tests, none, end))
end_by start list place last s false at over =
    let some = over_some s list place (slice_get list place) refl over in
    let end = at.end_is in
    sym (grind (arith, nat_tests, some, end))

pub is_end : (start : State) (list : List Event) (place last : ℕ) (s : State) → IsAt start list place last s →
    is_over s (slice_get list place) ≡ (min place (number_made start list) == number_made start list)
is_end start list place last s at = end_by start list place last s (is_over s (slice_get list place)) at refl

-- the event that comes

pub comes : (start : State) (list : List Event) (place last : ℕ) (s : State) → IsAt start list place last s →
    min place (number_made start list) < number_made start list → Accepts s list place
comes start list place last s at lt =
    let end = at.end_is in
    accepts start list place last s at (omega (arith, end, lt))

pub place_is : (start : State) (list : List Event) (place last : ℕ) (s : State) → IsAt start list place last s → min place (number_made start list) ≡ place
place_is start list place last s at = let end = at.end_is in omega (arith, end)

pub one_further : (start : State) (list : List Event) (place last : ℕ) (s : State) → IsAt start list place last s → (k : Accepts s list place) →
    (e : Event) → e ≡ k.event → (o : Outcome) (u : State) → next s e ≡ Ok (o, u) → (later : ℕ) → later ≡ last_after e last → IsAt start list (place + 1) later u
one_further start list place last s at k e is o u made later behind =
    subst (λ n. IsAt start list (place + 1) n u) (sym behind)
    (is_at_next start list place last s e o u at (k.event_is ∙ ap (λ x. Some x) (sym is)) made)

-- no event changes the number of processors

number_next : (s t : State) (e : Event) (o : Outcome) → next s e ≡ Ok (o, t) → length t.processors ≡ length s.processors
number_next s t e o h =
    sym (length-map t.processors (λ (p : Processor). p.count)) ∙ ap length (counts_law s t e o h) ∙ same_length e (counts s)
    ∙ length-map s.processors (λ (p : Processor). p.count)

number_after : (s : State) (e : Event) (x : Result (Outcome × State) Refusal) → next s e ≡ x → length (after s x).processors ≡ length s.processors
number_after s e (Err r) h = refl
number_after s e (Ok made) h = number_next s made.1 e made.0 h

number_along : (es : List Event) (s : State) → length (along s es).processors ≡ length s.processors
number_along [] s = refl
number_along (e ∷ es) s = number_along es (after s (next s e)) ∙ number_after s e (next s e) refl

pub number_at : (start : State) (list : List Event) (place : ℕ) → length (state_at start list place).processors ≡ length start.processors
number_at start list place = number_along (take place list) start

-- a trace, one event on

pub traced_more : (before more : List ℕ) (i : ℕ) (s t : State) (list : List Event) (e : Event) (whole : List ℕ) → slice_get list i ≡ Some e →
    before ++ trace_from i s (drop i list) ≡ whole → more ≡ before ++ line_by i e s (next s e) → t ≡ after s (next s e) →
    more ++ trace_from (i + 1) t (drop (i + 1) list) ≡ whole
traced_more before more i s t list e whole at so_far text state =
    let rest = trace_from (i + 1) (after s (next s e)) (drop (i + 1) list) in
    ap (λ u. more ++ trace_from (i + 1) u (drop (i + 1) list)) state ∙ ap (λ x. x ++ rest) text ∙ append_assoc before (line_by i e s (next s e)) rest
    ∙ ap (λ x. before ++ x) (sym (ap (trace_from i s) (rest_is list i e at))) ∙ so_far

pub traced_all : (text : List ℕ) (i : ℕ) (s : State) (list : List Event) (whole : List ℕ) → length list ≤ i → text ++ trace_from i s (drop i list) ≡ whole → text ≡ whole
traced_all text i s list whole past h = sym (append-nil text) ∙ ap (λ l. text ++ trace_from i s l) (sym (drop_all i list past)) ∙ h
