use Rattle.std.proofs.Common.{◌≡◌, ◌≢◌, ◌∙◌, refl, ap, sym, subst, ℕ, zero, suc, ◌+◌, ◌<◌, ◌≤◌, Bool, true, false, List, [], ◌∷◌, length, arith, inl, inr}
use Rattle.std.proofs.lemmas.Bool.Decides.{nat_tests}
use Rattle.std.specs.Prelude.{Option, None, Some, Result, Ok, ◌==◌, slice_index}
use Rattle.m161_cpu.specs.declared.processor.Outcome.{Outcome}
use Rattle.m161_machine.specs.declared.event.Entry.{Entry}
use Rattle.m161_machine.specs.declared.event.Event.{Event}
use Rattle.m161_machine.specs.declared.event.Event.TheVariants.{Step}
use Rattle.m161_machine.specs.declared.event.Refusal.{Refusal}
use Rattle.m161_machine.specs.History.{events_of}
use Rattle.m161_machine.specs.State.{State, next}
use Rattle.m161_order.specs.Delays.{behind}
use Rattle.m161_drive.specs.declared.cursor.Cursor.{Cursor}
use Rattle.m161_drive.specs.declared.turns.Turns.{Turns}
use Rattle.m161_drive.specs.Choice.{chosen_with, taken}
use Rattle.m161_drive.specs.Delayed.{passed, turned}
use Rattle.m161_drive.specs.Drive.{Chooses}
use Rattle.m161_drive.specs.Policy.{Rules}
use Rattle.m161_drive.specs.Ready.{ready}
use Rattle.m161_drive.proofs.Passing.{count_behind}
use Rattle.m161_places.specs.Laws.{HaveDifferentRuns, IsWhole, with_delays}
use Rattle.m161_delays.specs.Lists.{IsUseful, times}
use Rattle.m161_places.specs.Places.{behind_accepted, is_place, offers}
use Rattle.m161_places.proofs.Apart.{passed_apart}
use Rattle.m161_places.proofs.Effective.{offers_on, offers_where, some_there}
use Rattle.m161_places.proofs.Ranges.{as_many}
use Rattle.m161_places.proofs.Along.{offers_none, offers_off}
use Rattle.m161_places.proofs.Splitting.{Aside, Passing, Splits, splits}

-- Different useful lists have runs with different events.

-- none is useful where there is no place
none_of : (k : ℕ) → (1 ≤ k → k < 0) → k ≡ 0
none_of zero h = refl
none_of (suc k) h = let bad = h (omega arith) in absurd (let no : ⊥ = omega (arith, bad) in no)

none_here : (offered a : List ℕ) (j : ℕ) → offered ≡ [] → IsUseful offered a → times j a ≡ 0
none_here offered a j none useful =
    let gone : slice_index offered j ≡ 0 = ap (λ xs. slice_index xs j) none in
    none_of (times j a) (λ some. let less = useful j some in omega (arith, less, gone))

no_place : (first second a b : List ℕ) (j : ℕ) → first ≡ [] → second ≡ [] → IsUseful first a → IsUseful second b → times j a ≢ times j b → ⊥
no_place first second a b j none_first none_second of_a of_b differ =
    differ (none_here first a j none_first of_a ∙ sym (none_here second b j none_second of_b))

-- usefulness of what comes behind a place
useful_behind : (r : ℕ) (rest a : List ℕ) → IsUseful (r ∷ rest) a → IsUseful rest (behind 1 a)
useful_behind r rest a h j some =
    let count = count_behind j a in
    let next : times (j + 1) a ≡ times (suc j) a = (let same : j + 1 ≡ suc j = omega arith in ap (λ k. times k a) same) in
    let less = h (suc j) (omega (arith, some, count, next)) in
    omega (arith, less, count, next)

few_if : (k r : ℕ) → 1 ≤ r → (1 ≤ k → k < r) → k < r
few_if zero r some h = omega (arith, some)
few_if (suc k) r some h = h (omega arith)

few_now : (r : ℕ) (rest a : List ℕ) → 1 ≤ r → IsUseful (r ∷ rest) a → times 0 a < r
few_now r rest a some h = few_if (times 0 a) r some (h 0)

-- the first event of a run, and what comes behind it
record IsFirst
    (n : ℕ) (rules : Rules) (keys : ℕ → Option ℕ) (s : State) (e : Event) (after : Cursor) (es : List Entry) (d : Cursor) (t : State)
    : Type 0 where
  pub entry : Entry
  pub rest : List Entry
  pub state : State
  pub entries_are : es ≡ entry ∷ rest
  pub event_is : entry.event ≡ e
  pub accepted : next s e ≡ Ok (entry.outcome, state)
  pub chooses : Chooses rules keys (taken e state after) state rest d t
  pub whole : IsWhole n rules keys rest d t

whole_rest : (n : ℕ) (rules : Rules) (keys : ℕ → Option ℕ) (e : Entry) (es : List Entry) (d : Cursor) (t : State) →
    IsWhole (suc n) rules keys (e ∷ es) d t → IsWhole n rules keys es d t
whole_rest n rules keys e es d t (inl off) = inl off
whole_rest n rules keys e es d t (inr (inl long)) = inr (inl (omega (arith, long)))
whole_rest n rules keys e es d t (inr (inr stuck)) = inr (inr stuck)

some_none : {e : Event} → ◌≡◌ {A = Option Event} (Some e) None → ⊥
some_none h = cc

some_event : (n : ℕ) (rules : Rules) (keys : ℕ → Option ℕ) (c : Cursor) (s : State) (e : Event) (after : Cursor) (es : List Entry) (d : Cursor)
    (t : State) → s.board.off ≡ false → chosen_with rules (keys c.typed) c s ≡ (Some e, after) → Chooses rules keys c s es d t →
    IsWhole (suc n) rules keys es d t → IsFirst n rules keys s e after es d t
some_event n rules keys c s e after [] d t on is h (inl off) =
    let bad : false ≡ true = sym on ∙ ap (λ (u : State). u.board.off) (sym h.1) ∙ off in absurd cc
some_event n rules keys c s e after [] d t on is h (inr (inl long)) = absurd (let bad : ⊥ = omega (arith, long) in bad)
some_event n rules keys c s e after [] d t on is h (inr (inr stuck)) =
    let here : (chosen_with rules (keys c.typed) c s).0 ≡ None =
    (λ i. (chosen_with rules (keys (sym h.0 i).typed) (sym h.0 i) (sym h.1 i)).0) ∙ stuck in
    absurd (some_none (sym (ap (λ (x : Option Event × Cursor). x.0) is) ∙ here))
some_event n rules keys c s e after (x ∷ xs) d t on is h whole =
    let goes = h.2 in
    let some_same : ◌≡◌ {A = Option Event} (Some x.event) (Some e) = sym goes.choice_is ∙ ap (λ (y : Option Event × Cursor). y.0) is in
    let event : x.event ≡ e = cc in
    let cursor : h.0 ≡ taken e h.1 after = goes.cursor_is ∙ (λ i. taken (event i) h.1 (is i).1) in
    record {
      entry = x;
      rest = xs;
      state = h.1;
      entries_are = refl;
      event_is = event;
      accepted = ap (next s) (sym event) ∙ goes.accepted;
      chooses = subst (λ y. Chooses rules keys y h.1 xs d t) cursor h.3;
      whole = whole_rest n rules keys x xs d t whole;
    }

-- lists whose runs differ, from any cursor and state on
abbrev Differ : ℕ → Rules → (ℕ → Option ℕ) → Type 0
Differ n rules keys = (turns : Turns) (c : Cursor) (s : State) → HaveDifferentRuns n rules keys turns c s

same_state : (s : State) (e f : Event) (o p : Outcome) (t u : State) → next s e ≡ Ok (o, t) → next s f ≡ Ok (p, u) → e ≡ f → t ≡ u
same_state s e f o p t u first second same =
    let both : ◌≡◌ {A = Result (Outcome × State) Refusal} (Ok (o, t)) (Ok (p, u)) = sym first ∙ ap (next s) same ∙ second in
    let pair : ◌≡◌ {A = Outcome × State} (o, t) (p, u) = cc in
    ap (λ (x : Outcome × State). x.1) pair

tail_of : List Event → List Event
tail_of [] = []
tail_of (e ∷ es) = es

-- one event that both runs choose
go_on : (n : ℕ) (rules : Rules) (keys : ℕ → Option ℕ) → Differ n rules keys → (after : Turns) (b : Cursor) (s : State) (ev : Event)
    (left rest : List ℕ) (j : ℕ) →
    IsUseful (behind_accepted (next s ev) ev (with_delays after left b) (offers n rules keys)) left →
    IsUseful (behind_accepted (next s ev) ev (with_delays after rest b) (offers n rules keys)) rest →
    times j left ≢ times j rest → (es fs : List Entry) (d e : Cursor) (t u : State) →
    IsFirst n rules keys s ev (with_delays after left b) es d t → IsFirst n rules keys s ev (with_delays after rest b) fs e u →
    events_of es ≢ events_of fs
unfolding tail_of
go_on n rules keys differ after b s ev left rest j of_left of_rest other es fs d e t u first second same =
    let state : first.state ≡ second.state =
    same_state s ev ev first.entry.outcome second.entry.outcome first.state second.state first.accepted second.accepted refl in
    let c = taken ev first.state b in
    let useful : (x : List ℕ) → IsUseful (behind_accepted (next s ev) ev (with_delays after x b) (offers n rules keys)) x →
    IsUseful (offers n rules keys (with_delays after x c) first.state) x = λ x.
    subst (λ answer. IsUseful (behind_accepted answer ev (with_delays after x b) (offers n rules keys)) x) first.accepted in
    let events : events_of first.rest ≡ events_of second.rest =
    ap tail_of (sym (ap events_of first.entries_are) ∙ same ∙ ap events_of second.entries_are) in
    let chooses : Chooses rules keys (with_delays after rest c) first.state second.rest e u =
    subst (λ x. Chooses rules keys (taken ev x (with_delays after rest b)) x second.rest e u) (sym state) second.chooses in
    differ after c first.state left rest j (useful left of_left) (useful rest of_rest) other
    first.rest second.rest d e t u first.chooses first.whole chooses second.whole events

aside_differs : (n : ℕ) (rules : Rules) (keys : ℕ → Option ℕ) → Differ n rules keys → (turns : Turns) (c : Cursor) (s : State) →
    s.board.off ≡ false → (h : Aside (λ left. chosen_with rules (keys c.typed) (with_delays turns left c) s) s) → (o : Option Event) → h.event ≡ o →
    HaveDifferentRuns (suc n) rules keys turns c s
aside_differs n rules keys differ turns c s on h None is a b j of_a of_b other es fs d e t u first first_whole second second_whole same =
    let none : (x : List ℕ) → offers (suc n) rules keys (with_delays turns x c) s ≡ [] = λ x.
    offers_on n rules keys (with_delays turns x c) s (None, with_delays h.turns x h.cursor) on
    (h.chosen x ∙ ap (λ o. (o, with_delays h.turns x h.cursor)) is) in
    no_place (offers (suc n) rules keys (with_delays turns a c) s) (offers (suc n) rules keys (with_delays turns b c) s) a b j (none a) (none b) of_a of_b other
aside_differs n rules keys differ turns c s on h (Some ev) is a b j of_a of_b other es fs d e t u first first_whole second second_whole same =
    let of : (x : List ℕ) → chosen_with rules (keys c.typed) (with_delays turns x c) s ≡ (Some ev, with_delays h.turns x h.cursor) = λ x.
    h.chosen x ∙ ap (λ o. (o, with_delays h.turns x h.cursor)) is in
    let elsewhere : is_place (Some ev) s ≡ false = ap (λ o. is_place o s) (sym is) ∙ h.elsewhere in
    let useful : (x : List ℕ) → IsUseful (offers (suc n) rules keys (with_delays turns x c) s) x →
    IsUseful (behind_accepted (next s ev) ev (with_delays h.turns x h.cursor) (offers n rules keys)) x = λ x.
    subst (λ xs. IsUseful xs x) (offers_where n rules keys (with_delays turns x c) (with_delays h.turns x h.cursor) s ev false on (of x) elsewhere) in
    go_on n rules keys differ h.turns h.cursor s ev a b j (useful a of_a) (useful b of_b) other es fs d e t u
    (some_event n rules keys (with_delays turns a c) s ev (with_delays h.turns a h.cursor) es d t on (of a) first first_whole)
    (some_event n rules keys (with_delays turns b c) s ev (with_delays h.turns b h.cursor) fs e u on (of b) second second_whole) same

-- at a place where as many delays come
later : (a b : List ℕ) (j : ℕ) → times 0 a ≡ times 0 b → times j a ≢ times j b →
    (k : ℕ) × (times k (behind 1 a) ≢ times k (behind 1 b))
later a b zero now other = absurd (other now)
later a b (suc k) now other =
    let next : (x : List ℕ) → times k (behind 1 x) ≡ times (suc k) x = λ x.
    count_behind k x ∙ (let same : k + 1 ≡ suc k = omega arith in ap (λ i. times i x) same) in
    (k, λ same. other (sym (next a) ∙ same ∙ next b))

eq_of : (a b : ℕ) → (a == b) ≡ true → a ≡ b
eq_of a b h = grind (arith, nat_tests)

not_eq_of : (a b : ℕ) → (a == b) ≡ false → a ≢ b
not_eq_of a b h = grind (arith, nat_tests)

by_count : {P : Type 0} (a b : ℕ) (same : Bool) → (a == b) ≡ same → (a ≡ b → P) → (a ≢ b → P) → P
by_count a b true h equal other = equal (eq_of a b h)
by_count a b false h equal other = other (not_eq_of a b h)

head_of : List Event → Option Event
head_of [] = None
head_of (e ∷ es) = Some e

same_processor : (n : ℕ) (rules : Rules) (keys : ℕ → Option ℕ) (s : State) (p q : ℕ) (a b : Cursor) (es fs : List Entry) (d e : Cursor) (t u : State) →
    IsFirst n rules keys s (Step p) a es d t → IsFirst n rules keys s (Step q) b fs e u → events_of es ≡ events_of fs → p ≡ q
unfolding head_of
same_processor n rules keys s p q a b es fs d e t u first second same =
    let heads : ◌≡◌ {A = Option Event} (Some first.entry.event) (Some second.entry.event) =
    ap head_of (sym (ap events_of first.entries_are) ∙ same ∙ ap events_of second.entries_are) in
    let events : first.entry.event ≡ second.entry.event = cc in
    let steps : ◌≡◌ {A = Event} (Step p) (Step q) = sym first.event_is ∙ events ∙ second.event_is in
    cc

place_differs : (n : ℕ) (rules : Rules) (keys : ℕ → Option ℕ) → Differ n rules keys → (turns : Turns) (c : Cursor) (s : State) →
    s.board.off ≡ false → (h : Passing (λ left. chosen_with rules (keys c.typed) (with_delays turns left c) s) c s) →
    HaveDifferentRuns (suc n) rules keys turns c s
place_differs n rules keys differ turns c s on h a b j of_a of_b other es fs d e t u first first_whole second second_whole same =
    let p = h.processor in
    let r = length (ready s) in
    let some = some_there p s h.is_ready_there h.is_there in
    let many = as_many p s h.is_there in
    let q : List ℕ → ℕ = λ x. passed (times 0 x) p s in
    let after : ℕ → List ℕ → Cursor = λ k x. with_delays (turned p k h.turns) (behind 1 x) (record c { last = Some k }) in
    let useful : (x : List ℕ) (k : ℕ) → q x ≡ k → IsUseful (offers (suc n) rules keys (with_delays turns x c) s) x →
    IsUseful (r ∷ behind_accepted (next s (Step k)) (Step k) (after k x) (offers n rules keys)) x = λ x k is.
    subst (λ xs. IsUseful xs x)
    (offers_where n rules keys (with_delays turns x c) (after k x) s (Step k) true on (h.chosen x ∙ (λ i. (Some (Step (is i)), after (is i) x))) h.some) in
    let begins : (x : List ℕ) (k : ℕ) → q x ≡ k → (xs : List Entry) (g : Cursor) (v : State) → Chooses rules keys (with_delays turns x c) s xs g v →
    IsWhole (suc n) rules keys xs g v → IsFirst n rules keys s (Step k) (after k x) xs g v = λ x k is xs g v run whole.
    some_event n rules keys (with_delays turns x c) s (Step k) (after k x) xs g v on (h.chosen x ∙ (λ i. (Some (Step (is i)), after (is i) x))) run whole in
    let few : (x : List ℕ) → IsUseful (offers (suc n) rules keys (with_delays turns x c) s) x → times 0 x < r = λ x of_x.
    few_now r (behind_accepted (next s (Step (q x))) (Step (q x)) (after (q x) x) (offers n rules keys)) x some (useful x (q x) refl of_x) in
    let few_a = few a of_a in
    let few_b = few b of_b in
    by_count (times 0 a) (times 0 b) (times 0 a == times 0 b) refl
    (λ now.
    let is_q : q b ≡ q a = ap (λ k. passed k p s) (sym now) in
    let rest = later a b j now other in
    go_on n rules keys differ (turned p (q a) h.turns) (record c { last = Some (q a) }) s (Step (q a)) (behind 1 a) (behind 1 b) rest.0
    (useful_behind r (behind_accepted (next s (Step (q a))) (Step (q a)) (after (q a) a) (offers n rules keys)) a (useful a (q a) refl of_a))
    (useful_behind r (behind_accepted (next s (Step (q a))) (Step (q a)) (after (q a) b) (offers n rules keys)) b (useful b (q a) is_q of_b))
    rest.1 es fs d e t u (begins a (q a) refl es d t first first_whole) (begins b (q a) is_q fs e u second second_whole) same)
    (λ apart.
    passed_apart (times 0 a) (times 0 b) p s h.is_there (omega (arith, few_a, many)) (omega (arith, few_b, many)) apart
    (same_processor n rules keys s (q a) (q b) (after (q a) a) (after (q b) b) es fs d e t u
    (begins a (q a) refl es d t first first_whole) (begins b (q b) refl fs e u second second_whole) same))

by_split : (n : ℕ) (rules : Rules) (keys : ℕ → Option ℕ) → Differ n rules keys → (turns : Turns) (c : Cursor) (s : State) →
    s.board.off ≡ false → Splits (λ left. chosen_with rules (keys c.typed) (with_delays turns left c) s) c s →
    HaveDifferentRuns (suc n) rules keys turns c s
by_split n rules keys differ turns c s on (inl aside) = aside_differs n rules keys differ turns c s on aside aside.event refl
by_split n rules keys differ turns c s on (inr at) = place_differs n rules keys differ turns c s on at

by_off : (n : ℕ) (rules : Rules) (keys : ℕ → Option ℕ) → Differ n rules keys → (turns : Turns) (c : Cursor) (s : State) (off : Bool) →
    s.board.off ≡ off → HaveDifferentRuns (suc n) rules keys turns c s
by_off n rules keys differ turns c s true is = λ a b j of_a of_b other es fs d e t u first first_whole second second_whole same.
    no_place (offers (suc n) rules keys (with_delays turns a c) s) (offers (suc n) rules keys (with_delays turns b c) s) a b j
    (offers_off (suc n) rules keys (with_delays turns a c) s is) (offers_off (suc n) rules keys (with_delays turns b c) s is) of_a of_b other
by_off n rules keys differ turns c s false is =
    by_split n rules keys differ turns c s is (splits rules (keys c.typed) turns c s)

pub have_different_runs : (n : ℕ) (rules : Rules) (keys : ℕ → Option ℕ) (turns : Turns) (c : Cursor) (s : State) →
    HaveDifferentRuns n rules keys turns c s
have_different_runs zero rules keys turns c s = λ a b j of_a of_b other es fs d e t u first first_whole second second_whole same.
    no_place (offers 0 rules keys (with_delays turns a c) s) (offers 0 rules keys (with_delays turns b c) s) a b j
    (offers_none 0 rules keys (with_delays turns a c) s refl) (offers_none 0 rules keys (with_delays turns b c) s refl) of_a of_b other
have_different_runs (suc n) rules keys turns c s = by_off n rules keys (have_different_runs n rules keys) turns c s s.board.off refl
