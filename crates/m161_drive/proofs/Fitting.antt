use Rattle.std.proofs.Common.{◌≡◌, refl, ap, subst, ℕ, zero, suc, ◌+◌, ◌-◌, ◌<◌, Bool, true, false, cond, not, List, [], ◌∷◌, ◌++◌, length, min, arith, ◌⊎◌, inl, inr}
use Rattle.std.proofs.lemmas.Bool.Decides.{nat_tests}
use Rattle.std.proofs.lemmas.Option.{slice_get-get_or}
use Rattle.std.specs.Prelude.{Option, None, Some, Result, Ok, Err, ◌&&◌, ◌||◌, ◌==◌, if◌then◌else◌, nat_lt, nat_le, count_by, find, filter, slice_get, slice_index, is_some}
use Rattle.std.specs.List.{last_or, range_with_len}
use Rattle.rand_pcg.specs.Lcg.{Lcg}
use Rattle.m161_bus.specs.Board.{board_done, board_key, with_console}
use Rattle.m161_bus.specs.Console.{ConsoleState, after_sending, done_from}
use Rattle.m161_cpu.specs.declared.processor.Outcome.{Outcome}
use Rattle.m161_cpu.specs.declared.processor.Outcome.TheVariants.{Taken}
use Rattle.m161_isa.specs.Choice.{first_answer}
use Rattle.m161_machine.specs.declared.event.Event.{Event}
use Rattle.m161_machine.specs.declared.event.Event.TheVariants.{Step, Key, Done}
use Rattle.m161_machine.specs.declared.event.Refusal.{Refusal}
use Rattle.m161_machine.specs.declared.event.Refusal.TheVariants.{BadProcessor, Off, Worn, NoMemory}
use Rattle.m161_machine.specs.History.{Refuses}
use Rattle.m161_machine.specs.Resting.{rests, ticks}
use Rattle.m161_machine.specs.State.{State, answered_done, answered_key, is_worn, next, step_result, unless, with_board, with_step}
use Rattle.m161_drive.specs.declared.cursor.Cursor.{Cursor}
use Rattle.m161_drive.specs.declared.turns.Turns.{Turns}
use Rattle.m161_drive.specs.declared.orders.OrderState.{OrderState}
use Rattle.m161_drive.specs.declared.orders.OrderState.TheVariants.{InTurns, ByDelays, AtRandom, ByPriority}
use Rattle.m161_drive.specs.Choice.{chosen_with, gap_is_over, key_is_due, next_step, ordered, since_filled, tick, transfer_ends, type_key, wants_key}
use Rattle.m161_drive.specs.Orders.{at_place, begun, by_order, by_priority, by_turns, by_words, delayed, goes_on, one_of}
use Rattle.m161_drive.specs.Delayed.{DelayState, passed, ready_from}
use Rattle.m161_drive.specs.Policy.{Rules}
use Rattle.m161_drive.specs.Priorities.{PriorityState, highest}
use Rattle.m161_drive.specs.Ready.{cyclic, is_ready, is_sending, is_ticking, next_behind, place_behind, ready, some_ready}
use Rattle.m161_drive.specs.Words.{below}
use Rattle.m161_drive.proofs.Passing.{ready_head}
use Rattle.m161_drive.proofs.Sleeping.{less_in}

-- What is chosen: a processor that is there, a key for which there is room, the end of a transfer.

lt_not_le : (p n : ℕ) → nat_lt p n ≡ true → nat_le n p ≡ false
lt_not_le p n h = grind (arith, nat_tests)

pub and_first : (a b : Bool) → (a && b) ≡ true → a ≡ true
and_first true b h = refl
and_first false b h = h

pub and_second : (a b : Bool) → (a && b) ≡ true → b ≡ true
and_second true b h = h
and_second false b h = let bad : false ≡ true = h in absurd cc

-- what a search finds passes
find_if : (test : ℕ → Bool) (b : Bool) (x p : ℕ) (o : Option ℕ) → test x ≡ b → (o ≡ Some p → test p ≡ true) →
    cond b (Some x) o ≡ Some p → test p ≡ true
find_if test true x p o t rest h = let same : ◌≡◌ {A = Option ℕ} (Some x) (Some p) = h in cc
find_if test false x p o t rest h = rest h

pub find_passes : (test : ℕ → Bool) (xs : List ℕ) (p : ℕ) → find test xs ≡ Some p → test p ≡ true
find_passes test [] p h = let bad : ◌≡◌ {A = Option ℕ} None (Some p) = h in absurd cc
find_passes test (x ∷ xs) p h = find_if test (test x) x p (find test xs) refl (find_passes test xs p) h

-- so does what stands in a filtered list
get_if : (test : ℕ → Bool) (b : Bool) (x p : ℕ) (ys : List ℕ) (i : ℕ) → test x ≡ b →
    ((j : ℕ) → slice_get ys j ≡ Some p → test p ≡ true) → slice_get (cond b (x ∷ ys) ys) i ≡ Some p → test p ≡ true
get_if test true x p ys zero t rest h = let same : ◌≡◌ {A = Option ℕ} (Some x) (Some p) = h in cc
get_if test true x p ys (suc j) t rest h = rest j h
get_if test false x p ys i t rest h = rest i h

pub filter_passes : (test : ℕ → Bool) (xs : List ℕ) (i p : ℕ) → slice_get (filter test xs) i ≡ Some p → test p ≡ true
filter_passes test [] i p h = let bad : ◌≡◌ {A = Option ℕ} None (Some p) = h in absurd cc
filter_passes test (x ∷ xs) i p h =
    get_if test (test x) x p (filter test xs) i refl (λ j k. filter_passes test xs j p k) h

-- and the last of those that pass
abbrev Holds : (ℕ → Bool) → Option ℕ → Type 0
Holds test o = (j : ℕ) → o ≡ Some j → test j ≡ true

one_holds : (test : ℕ → Bool) (x : ℕ) → test x ≡ true → Holds test (Some x)
one_holds test x t j h = let same : ◌≡◌ {A = Option ℕ} (Some x) (Some j) = h in cc

last_if : (test : ℕ → Bool) (b : Bool) (x : ℕ) (ys : List ℕ) (last : Option ℕ) → test x ≡ b → Holds test last →
    ((o : Option ℕ) → Holds test o → Holds test (last_or o ys)) →
    Holds test (last_or last (cond b (x ∷ ys) ys))
last_if test true x ys last t ok rest = rest (Some x) (one_holds test x t)
last_if test false x ys last t ok rest = rest last ok

last_holds : (test : ℕ → Bool) (xs : List ℕ) (last : Option ℕ) → Holds test last → Holds test (last_or last (filter test xs))
last_holds test [] last ok = ok
last_holds test (x ∷ xs) last ok =
    last_if test (test x) x (filter test xs) last refl ok (λ o k. last_holds test xs o k)

none_holds : (test : ℕ → Bool) → Holds test None
none_holds test j h = let bad : ◌≡◌ {A = Option ℕ} None (Some j) = h in absurd cc

-- each order chooses a ready processor
begun_ready : (o : Option ℕ) (t : Turns) (s : State) → Holds (is_ready s) o → Holds (is_ready s) (begun o t).0
begun_ready None t s ok = none_holds (is_ready s)
begun_ready (Some p) t s ok = ok

goes_ready : (t : Turns) (last : Option ℕ) (s : State) → goes_on t last s ≡ true → Holds (is_ready s) last
goes_ready t None s h j same = none_holds (is_ready s) j same
goes_ready t (Some p) s h j same =
    let e : ◌≡◌ {A = Option ℕ} (Some p) (Some j) = same in
    let k : p ≡ j = cc in
    subst (λ q. is_ready s q ≡ true) k (and_second (nat_lt 0 t.made && nat_lt t.made t.steps) (is_ready s p) h)

if_holds : (test : ℕ → Bool) (b : Bool) (x y : Option ℕ × Turns) → (b ≡ true → Holds test x.0) → Holds test y.0 →
    Holds test (if b then x else y).0
if_holds test true x y h k = h refl
if_holds test false x y h k = k

next_holds : (test : ℕ → Bool) (last : Option ℕ) (s : State) → Holds test (next_behind test last s)
next_holds test last s j k =
    find_passes test (cyclic (place_behind last (length s.processors)) (length s.processors)) j k

turns_ready : (t : Turns) (last : Option ℕ) (s : State) → Holds (is_ready s) (by_turns t last s).0
turns_ready t last s =
    if_holds (is_ready s) (goes_on t last s) (last, record t { made = t.made + 1 }) (begun (next_behind (is_ready s) last s) t)
    (goes_ready t last s) (begun_ready (next_behind (is_ready s) last s) t s (next_holds (is_ready s) last s))

one_passes : (test : ℕ → Bool) (ps : List ℕ) (g : Lcg) → ((i p : ℕ) → slice_get ps i ≡ Some p → test p ≡ true) →
    Holds test (one_of ps g).0
one_passes test [] g h = none_holds test
one_passes test (p ∷ ps) g h = λ j k. h (below (length (p ∷ ps)) g) j k

words_ready : (g : Lcg) (s : State) → Holds (is_ready s) (by_words g s).0
words_ready g s =
    one_passes (is_ready s) (ready s) g
    (λ i p h. filter_passes (is_ready s) (range_with_len 0 (length s.processors)) i p h)

place_ready : (test : ℕ → Bool) (o : Option ℕ) (r : PriorityState) → Holds (λ k. test (slice_index r.processors k)) o →
    Holds test (at_place o r).0
place_ready test None r ok j same = none_holds test j same
place_ready test (Some k) r ok j same =
    let e : ◌≡◌ {A = Option ℕ} (Some (slice_index r.processors k)) (Some j) = same in
    let q : slice_index r.processors k ≡ j = cc in
    subst (λ x. test x ≡ true) q (ok k refl)

priority_ready : (r : PriorityState) (s : State) → Holds (is_ready s) (by_priority r s).0
priority_ready r s =
    place_ready (is_ready s) (highest r s) r
    (last_holds (λ k. is_ready s (slice_index r.processors k)) (range_with_len 0 32) None
    (none_holds (λ k. is_ready s (slice_index r.processors k))))

passed_ready : (n p : ℕ) (s : State) → is_ready s p ≡ true → is_ready s (passed n p s) ≡ true
passed_ready n p s ready =
    let here = less_in p (length s.processors) (and_first (nat_lt p (length s.processors)) (not (rests p s)) ready) in
    let some = ap length (ready_head p s ready here) in
    filter_passes (is_ready s) (cyclic p (length s.processors)) (min n (length (ready_from p s) - 1)) (passed n p s)
    (slice_get-get_or (ready_from p s) (min n (length (ready_from p s) - 1)) 0 (omega (arith, some)))

delayed_ready : (o : Option ℕ) (t : Turns) (d : DelayState) (s : State) → Holds (is_ready s) o → Holds (is_ready s) (delayed o t d s).0
delayed_ready None t d s ok = none_holds (is_ready s)
delayed_ready (Some p) t d s ok =
    let due = count_by (λ n. n == 0) d.left in one_holds (is_ready s) (passed due p s) (passed_ready due p s (ok p refl))

pub order_ready : (o : OrderState) (last : Option ℕ) (s : State) → Holds (is_ready s) (by_order o last s).0
order_ready (InTurns t) last s = turns_ready t last s
order_ready (ByDelays d) last s =
    delayed_ready (by_turns d.turns last s).0 (by_turns d.turns last s).1 d s (turns_ready d.turns last s)
order_ready (AtRandom g) last s = words_ready g s
order_ready (ByPriority r) last s = priority_ready r s

-- an event that none but the last refusals can be of
abbrev pub IsFit : Event → State → Type 0
IsFit (Step p) s = nat_lt p (length s.processors) ≡ true
IsFit (Key byte) s = nat_lt (length s.board.console.waiting) 256 ≡ true
IsFit Done s = is_sending s ≡ true

abbrev Fits : Option Event → State → Type 0
Fits o s = (e : Event) → o ≡ Some e → IsFit e s

just : (e : Event) (s : State) → IsFit e s → Fits (Some e) s
just e s ok f h =
    let same : ◌≡◌ {A = Option Event} (Some e) (Some f) = h in
    let k : e ≡ f = cc in
    subst (λ x. IsFit x s) k ok

nothing : (s : State) → Fits None s
nothing s e h = let bad : ◌≡◌ {A = Option Event} None (Some e) = h in absurd cc

tick_fits : (o : Option ℕ) (c : Cursor) (s : State) → Holds (is_ticking s) o → Fits (tick o c).0 s
tick_fits None c s ok = nothing s
tick_fits (Some p) c s ok =
    just (Step p) s (and_first (nat_lt p (length s.processors)) (ticks p s) (ok p refl))

ordered_fits : (p : Option ℕ) (o : OrderState) (c : Cursor) (s : State) → Holds (is_ready s) p → Fits (ordered p o c s).0 s
ordered_fits None o c s ok =
    tick_fits (next_behind (is_ticking s) c.last s) (record c { order = o }) s (next_holds (is_ticking s) c.last s)
ordered_fits (Some p) o c s ok =
    just (Step p) s (and_first (nat_lt p (length s.processors)) (not (rests p s)) (ok p refl))

step_fits : (c : Cursor) (s : State) → Fits (next_step c s).0 s
step_fits c s =
    ordered_fits (by_order c.order c.last s).0 (by_order c.order c.last s).1 c s (order_ready c.order c.last s)

key_fits : (key : Option ℕ) (c : Cursor) (s : State) → nat_lt (length s.board.console.waiting) 256 ≡ true →
    Fits (type_key key c s).0 s
key_fits None c s room = step_fits c s
key_fits (Some byte) c s room = just (Key byte) s room

if_fits : (b : Bool) (x y : Option Event × Cursor) (s : State) → (b ≡ true → Fits x.0 s) → Fits y.0 s →
    Fits (if b then x else y).0 s
if_fits true x y s h k = h refl
if_fits false x y s h k = k

pub choice_fits : (rules : Rules) (key : Option ℕ) (c : Cursor) (s : State) → Fits (chosen_with rules key c s).0 s
unfolding chosen_with
choice_fits rules key c s =
    let room = nat_lt (length s.board.console.waiting) 256 in
    if_fits (transfer_ends rules c s) (Some Done, c) (if wants_key rules c s then type_key key c s else next_step c s) s
    (λ h. just Done s (and_first (is_sending s) (nat_le rules.transfer (since_filled c.filled s) || not (some_ready s)) h))
    (if_fits (wants_key rules c s) (type_key key c s) (next_step c s) s
    (λ h. key_fits key c s (and_first room (gap_is_over rules.gap c s || not (some_ready s))
    (and_second (not (transfer_ends rules c s)) (key_is_due rules c s) h)))
    (step_fits c s))

-- so it is refused for the last refusals alone
step_refused : (none off worn : Bool) (given : Outcome × State) (e : Event) (refusal : Refusal) →
    none ≡ false → off ≡ false →
    Refuses (unless (first_answer ((none, BadProcessor) ∷ (off, Off) ∷ (worn, Worn) ∷ [])) (Ok given)) e refusal →
    (refusal ≡ Worn) ⊎ (refusal ≡ NoMemory)
step_refused true off worn given e refusal n o h = let bad : true ≡ false = n in absurd cc
step_refused false true worn given e refusal n o h = let bad : true ≡ false = o in absurd cc
step_refused false false true given e refusal n o h = inl h
step_refused false false false given e refusal n o h = inr h.0

input_refused : (off worn : Bool) (answer : Result (Outcome × State) Refusal) (given : Outcome × State) (e : Event) (refusal : Refusal) →
    off ≡ false → answer ≡ Ok given →
    Refuses (unless (first_answer ((off, Off) ∷ (worn, Worn) ∷ [])) answer) e refusal →
    (refusal ≡ Worn) ⊎ (refusal ≡ NoMemory)
input_refused true worn answer given e refusal o a h = let bad : true ≡ false = o in absurd cc
input_refused false true answer given e refusal o a h = inl h
input_refused false false answer given e refusal o a h =
    let k : Refuses (Ok given) e refusal = subst (λ x. Refuses x e refusal) a h in inr k.0

key_taken : (room : Bool) (new : ConsoleState) (s : State) → room ≡ true →
    answered_key s (with_console (if room then Ok new else Err (record {})) s.board) ≡ Ok (Taken, with_board (record s.board { console = new }) s)
key_taken true new s h = refl
key_taken false new s h = let bad : false ≡ true = h in absurd cc

done_taken : (latch : Option ℕ) (s : State) → is_some latch ≡ true →
    (given : Outcome × State) × (answered_done s (with_console (done_from latch s.board.console) s.board) ≡ Ok given)
done_taken None s h = let bad : false ≡ true = h in absurd cc
done_taken (Some byte) s h =
    ((Taken, with_board (record s.board { console = after_sending byte s.board.console }) s), refl)

pub fit_refused : (e : Event) (s : State) (refusal : Refusal) → IsFit e s → s.board.off ≡ false →
    Refuses (next s e) e refusal → (refusal ≡ Worn) ⊎ (refusal ≡ NoMemory)
unfolding next
fit_refused (Step p) s refusal fit on h =
    let here : nat_le (length s.processors) p ≡ false = lt_not_le p (length s.processors) fit in
    step_refused (nat_le (length s.processors) p) s.board.off (is_worn s.made)
    ((step_result p s).outcome, with_step p (step_result p s) s) (Step p) refusal here on h
fit_refused (Key byte) s refusal fit on h =
    input_refused s.board.off (is_worn s.made) (answered_key s (board_key byte s.board))
    (Taken, with_board (record s.board { console = record s.board.console { waiting = s.board.console.waiting ++ byte ∷ [] } }) s)
    (Key byte) refusal on
    (key_taken (nat_lt (length s.board.console.waiting) 256) (record s.board.console { waiting = s.board.console.waiting ++ byte ∷ [] }) s fit) h
fit_refused Done s refusal fit on h =
    let d = done_taken s.board.console.latch s fit in
    input_refused s.board.off (is_worn s.made) (answered_done s (board_done s.board)) d.0 Done refusal on d.1 h
