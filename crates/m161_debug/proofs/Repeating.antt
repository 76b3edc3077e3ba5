-- Events of a log that are made again.
use Rattle.std.proofs.Common.{take-add, ◌≡◌, ◌∙◌, refl, sym, ap, subst, ℕ, zero, suc, ◌+◌, ◌-◌, ◌<◌, ◌≤◌, List, [], ◌∷◌, ◌++◌, length, take, drop, replicate, get_or, slice_get, Option, None, Some, Result, Ok, Err, arith}
use Rattle.std.specs.List.{take-map, drop-map}
use Rattle.std.proofs.lemmas.List.{at_drop_more, drop-append-le, drop-drop, drop_all, get_or-drop, get_or-map, length-drop, length-map, length-take, replicate-append-replicate, take-append-drop, take-replicate, take-take, take_all, take_more}
use Rattle.std.proofs.lemmas.Option.{get_or_from_slice_get, slice_get-get_or}
use Rattle.m161_cpu.specs.declared.processor.Outcome.{Outcome}
use Rattle.m161_machine.specs.declared.event.Event.{Event}
use Rattle.m161_machine.specs.declared.event.Event.TheVariants.{Step}
use Rattle.m161_machine.specs.declared.event.Entry.{Entry}
use Rattle.m161_machine.specs.declared.event.Refusal.{Refusal}
use Rattle.m161_machine.specs.State.{State, next}
use Rattle.m161_machine.specs.History.{Answers, Continues, Ends, History, Leads, entry, events_of}
use Rattle.m161_machine.proofs.Continuing.{continues_on}
use Rattle.m161_machine.proofs.Leading.{leads_split}
use Rattle.m161_debug.specs.helpers.Repeat.{Repeats}

same_given : (x : Result (Outcome × State) Refusal) (a b : Outcome × State) → x ≡ Ok a → x ≡ Ok b → a.1 ≡ b.1
same_given x a b is_a is_b =
    let same : ◌≡◌ {A = Result (Outcome × State) Refusal} (Ok a) (Ok b) = sym is_a ∙ is_b in
    let pair : a ≡ b = cc in
    ap (λ (p : Outcome × State). p.1) pair

-- the same events lead from a state to one state alone
alike : (es fs : List Entry) (s t u : State) → Leads s es t → Leads s fs u → events_of es ≡ events_of fs → t ≡ u
alike [] [] s t u a b same = a ∙ sym b
alike [] (f ∷ fs) s t u a b same = absurd (cc)
alike (e ∷ es) [] s t u a b same = absurd (cc)
alike (e ∷ es) (f ∷ fs) s t u a b same =
    let event : e.event ≡ f.event = cc in
    let rest : events_of es ≡ events_of fs = cc in
    let b_is : next s e.event ≡ Ok (f.outcome, b.0) = ap (next s) event ∙ b.1 in
    let state : a.0 ≡ b.0 = same_given (next s e.event) (e.outcome, a.0) (f.outcome, b.0) a.1 b_is in
    alike es fs b.0 t u (subst (λ v. Leads v es t) state a.2) b.2 rest

-- the entries of a log from its n-th on lead on from where its first n events lead
pub leads_after : (log : List Entry) (n : ℕ) (events : List Event) (m k : History) (t : State) → Leads m.state log t → Continues m events k → events ≡ take n (events_of log) → Leads k.state (drop n log) t
leads_after log n events m k t leads c is =
    let whole : Leads m.state (take n log ++ drop n log) t = subst (λ es. Leads m.state es t) (sym (take-append-drop n log)) leads in
    let cut = leads_split (take n log) (drop n log) m.state t whole in
    let first : events_of (take n log) ≡ events_of c.entries = sym (take-map (λ (e : Entry). e.event) n log) ∙ sym is ∙ sym c.events_are in
    subst (λ s. Leads s (drop n log) t) (alike (take n log) c.entries m.state cut.0 k.state cut.1 c.run_is first) cut.2

-- so the next event is accepted
next_accepted : (log : List Entry) (t : State) (s : State) (e : Event) (rest : List Event) (refusal : Refusal) → Leads s log t → events_of log ≡ e ∷ rest → next s e ≡ Err refusal → ⊥
next_accepted [] t s e rest refusal leads is refused = absurd (cc)
next_accepted (x ∷ log) t s e rest refusal leads is refused =
    let event : x.event ≡ e = cc in
    let bad : ◌≡◌ {A = Result (Outcome × State) Refusal} (Ok (x.outcome, leads.0)) (Err refusal) = sym leads.1 ∙ ap (next s) event ∙ refused in
    absurd (cc)

-- Steps of a log are all made again
all_made : (log : List Entry) (t : State) (p n made : ℕ) (why : Option Refusal) (old new : History) → Leads old.state log t → n ≤ length log → take n (events_of log) ≡ replicate n (Step p)
    → Continues old (replicate made (Step p)) new → Ends new (Step p) n made why → made ≡ n
all_made log t p n made None old new leads within steps run ends = ends
all_made log t p n made (Some refusal) old new leads within steps run ends =
    let le : made ≤ n = omega (arith, ends.0) in
    let few : take made (events_of log) ≡ replicate made (Step p) =
    sym (take-take made n (events_of log) le) ∙ ap (take made) steps ∙ take-replicate made n (Step p) le in
    let on = leads_after log made (replicate made (Step p)) old new t leads run (sym few) in
    let long : made < length (events_of log) = omega (arith, ends.0, within, length-map log (λ (e : Entry). e.event)) in
    let here : get_or (events_of log) made (Step p) ≡ Step p = get_at_step made n (events_of log) ends.0 steps in
    let is : events_of (drop made log) ≡ Step p ∷ drop (made + 1) (events_of log) =
    sym (drop-map (λ (e : Entry). e.event) made log) ∙ at_drop_more (λ l. l) (events_of log) made (Step p) long ∙ ap (λ x. x ∷ drop (made + 1) (events_of log)) here in
    absurd (next_accepted (drop made log) t new.state (Step p) (drop (made + 1) (events_of log)) refusal on is ends.1)
  where
    get_at_step : (i n : ℕ) (es : List Event) → i < n → take n es ≡ replicate n (Step p) → get_or es i (Step p) ≡ Step p
    get_at_step i zero es lt is = absurd (omega (arith, lt))
    get_at_step i (suc n) [] lt is = refl
    get_at_step zero (suc n) (e ∷ es) lt is = cc
    get_at_step (suc i) (suc n) (e ∷ es) lt is =
        let rest : take n es ≡ replicate n (Step p) = cc in
        get_at_step i n es (omega (arith, lt)) rest

-- the contract of a run of Steps
pub steps_repeat : (log : List Entry) (t : State) (p first n made : ℕ) (why : Option Refusal) (old new : History) → Leads old.state (drop first log) t → first + n ≤ length log
    → take n (drop first (events_of log)) ≡ replicate n (Step p) → Continues old (replicate made (Step p)) new → Ends new (Step p) n made why → Repeats log t first n old new
steps_repeat log t p first n made why old new leads within steps run ends =
    let same : drop first (events_of log) ≡ events_of (drop first log) = drop-map (λ (e : Entry). e.event) first log in
    let here : take n (events_of (drop first log)) ≡ replicate n (Step p) = ap (take n) (sym same) ∙ steps in
    let all : made ≡ n = all_made (drop first log) t p n made why old new leads (omega (arith, within, length-drop first log)) here run ends in
    let whole : Continues old (replicate n (Step p)) new = subst (λ k. Continues old (replicate k (Step p)) new) all run in
    record {
      again = subst (λ es. Continues old es new) (sym steps) whole;
      rest = subst (λ l. Leads new.state l t) (drop-drop n first log) (leads_after (drop first log) n (replicate n (Step p)) old new t leads whole (sym here));
    }

-- and of one event
pub event_repeats : (log : List Entry) (t : State) (first : ℕ) (e : Event) (old new : History) → Leads old.state (drop first log) t → first < length log
    → take 1 (drop first (events_of log)) ≡ e ∷ [] → Continues old (e ∷ []) new → Repeats log t first 1 old new
event_repeats log t first e old new leads within here run =
    let same : drop first (events_of log) ≡ events_of (drop first log) = drop-map (λ (e : Entry). e.event) first log in
    record {
      again = subst (λ es. Continues old es new) (sym here) run;
      rest = subst (λ l. Leads new.state l t) (drop-drop 1 first log) (leads_after (drop first log) 1 (e ∷ []) old new t leads run (sym (ap (take 1) (sym same) ∙ here)));
    }

-- an event that was accepted
pub event_made : (old new : History) (e : Event) (o : Outcome) → Answers old e (Ok o) new → Continues old (e ∷ []) new
event_made old new e o answer = record {
  entries = entry e o ∷ [];
  events_are = refl;
  run_is = (new.state, answer.0, refl);
  slides = answer.1;
}

-- the events of entries, one by one

event_at : (log : List Entry) (i : ℕ) (x : Entry) → i < length log → slice_get log i ≡ Some x → get_or (events_of log) i x.event ≡ x.event
event_at log i x lt here = get_or-map (λ (e : Entry). e.event) log i x x.event lt ∙ ap (λ (e : Entry). e.event) (get_or_from_slice_get log i x x here)

pub event_got : (log : List Entry) (i : ℕ) (x : Entry) → i < length log → slice_get log i ≡ Some x → slice_get (events_of log) i ≡ Some x.event
event_got log i x lt here =
    slice_get-get_or (events_of log) i x.event (omega (arith, lt, length-map log (λ (e : Entry). e.event))) ∙ ap (λ e. Some e) (event_at log i x lt here)

pub none_kept : (log : List Entry) (first : ℕ) → [] ≡ drop first (take first (events_of log))
none_kept log first = sym (drop_all first (take first (events_of log)) (omega (arith, length-take first (events_of log))))

pub kept_more : (log : List Entry) (first i : ℕ) (x : Entry) → first ≤ i → i < length log → slice_get log i ≡ Some x
    → drop first (take (i + 1) (events_of log)) ≡ drop first (take i (events_of log)) ++ x.event ∷ []
kept_more log first i x le lt here =
    let long : i < length (events_of log) = omega (arith, lt, length-map log (λ (e : Entry). e.event)) in
    ap (drop first) (take_more (events_of log) i x.event long ∙ ap (λ e. take i (events_of log) ++ e ∷ []) (event_at log i x lt here))
    ∙ drop-append-le first (take i (events_of log)) (x.event ∷ []) (omega (arith, long, le, length-take i (events_of log)))

pub all_kept : (log : List Entry) (first i : ℕ) → length log ≤ i → drop first (take i (events_of log)) ≡ drop first (events_of log)
all_kept log first i le = ap (drop first) (take_all i (events_of log) (omega (arith, le, length-map log (λ (e : Entry). e.event))))

-- a run of the same event, from a place on

first_of : (es : List Event) (k : ℕ) (e : Event) → k < length es → slice_get es k ≡ Some e → drop k es ≡ e ∷ drop (k + 1) es
first_of es k e lt here = at_drop_more (λ l. l) es k e lt ∙ ap (λ x. x ∷ drop (k + 1) es) (get_or_from_slice_get es k e e here)

pub run_of_one : (log : List Entry) (first : ℕ) (e : Event) → first < length log → slice_get (events_of log) first ≡ Some e → take 1 (drop first (events_of log)) ≡ e ∷ []
run_of_one log first e lt here = ap (take 1) (first_of (events_of log) first e (omega (arith, lt, length-map log (λ (x : Entry). x.event))) here)

pub run_more : (log : List Entry) (first last : ℕ) (e : Event) → first ≤ last → last < length log → slice_get (events_of log) last ≡ Some e
    → take (last - first) (drop first (events_of log)) ≡ replicate (last - first) e → take (last + 1 - first) (drop first (events_of log)) ≡ replicate (last + 1 - first) e
run_more log first last e le lt here so_far =
    let es = drop first (events_of log) in
    let long : last < length (events_of log) = omega (arith, lt, length-map log (λ (x : Entry). x.event)) in
    let n : last + 1 - first ≡ (last - first) + 1 = omega (arith, le) in
    let back : first + (last - first) ≡ last = omega (arith, le) in
    let inside : last - first < length es = omega (arith, long, le, length-drop first (events_of log)) in
    let got : get_or es (last - first) e ≡ e = get_or-drop first (events_of log) (last - first) e ∙ ap (λ i. get_or (events_of log) i e) back ∙ get_or_from_slice_get (events_of log) last e e here in
    ap (λ k. take k es) n ∙ take_more es (last - first) e inside ∙ (λ i. so_far i ++ got i ∷ [])
    ∙ replicate-append-replicate (last - first) 1 e ∙ ap (λ k. replicate k e) (sym n)

-- more of a log's events are made again
pub repeats_on : (log : List Entry) (t : State) (made n : ℕ) (m old new : History) → Continues m (take made (events_of log)) old → Repeats log t made n old new
    → Continues m (take (made + n) (events_of log)) new
repeats_on log t made n m old new before r =
    let P : List Event → Type 0 = λ es. Continues m es new in
    subst P (sym (take-add made n (events_of log))) (continues_on m old new (take made (events_of log)) (take n (drop made (events_of log))) before r.again)
