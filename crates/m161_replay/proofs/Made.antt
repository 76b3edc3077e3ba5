use Rattle.std.proofs.Common.{◌≡◌, inl, inr, ◌∙◌, refl, sym, ap, subst, ℕ, ◌+◌, ◌*◌, ◌/◌, Bool, true, false, List, [], ◌∷◌, length, Option, None, Some, Result, Ok, Err}
use Rattle.std.specs.Prelude.{IfOk, if◌then◌else◌, is_some, nat_le, not, ◌&&◌, option_and_then, unwrap_or}
use Rattle.m161_isa.specs.declared.effect.Effect.{Effect}
use Rattle.m161_isa.specs.declared.table.Row.{Row as TableRow}
use Rattle.m161_isa.specs.Table.{numbers_of, row_that_fits, table}
use Rattle.m161_cop0.specs.Control.{Control}
use Rattle.m161_bus.specs.Board.{BoardState}
use Rattle.m161_cpu.specs.declared.processor.Outcome.{Outcome}
use Rattle.m161_cpu.specs.declared.processor.Outcome.TheVariants as outcomes
use Rattle.m161_cpu.specs.Effect.{Argument, arguments, effect_of, with_three}
use Rattle.m161_cpu.specs.Fault.{exception_of}
use Rattle.m161_cpu.specs.Fetch.{fetched_word, word_found}
use Rattle.m161_cpu.specs.Processor.{Processor}
use Rattle.m161_cpu.specs.Scene.{Change, Scene, Store, and_then, around_after, stored_by}
use Rattle.m161_cpu.specs.Step.{Stepped, change_by_row, change_in, conflict_of, executable_word, is_unusable, outcome_after, step_of, step_of_change, step_of_result, switches_off, usable, word_at_pc}
use Rattle.m161_cpu.specs.Translation.{is_store}
use Rattle.m161_cpu.specs.Uses.{Reference, fetches, reference_after, reference_of_step, uses_of}
use Rattle.m161_cpu.specs.UsesLaw.{address_of, awake}
use Rattle.m161_cpu.proofs.Awake.{NoFetch, fetched_change, step_doesnt_fetch, step_fetches}
use Rattle.m161_machine.specs.declared.event.Event.TheVariants.{Step}
use Rattle.m161_machine.specs.Fetched.{fetched, fetches_none}
use Rattle.m161_machine.specs.State.{State, next, processor_at, step_result}
use Rattle.m161_machine.specs.Uses.{uses_in}
use Rattle.m161_trace.specs.helpers.Far.{is_far}
use Rattle.m161_trace.specs.Loads.{loaded, loaded_address, loaded_by, loads_by, loads_from, physical_if, word_around}
use Rattle.m161_trace.proofs.Near.{accepted, none_written}
use Rattle.m161_trace.proofs.NearEffects.{NearChange, near_effect}
use Rattle.m161_replay.specs.Law.{SeenIsMade}
use Rattle.m161_replay.specs.Seen.{fetched_next, loaded_next, scene_in}
use Rattle.m161_replay.proofs.Effects.{Runs, RunsBy, Traps, instruction_runs, instruction_traps, reach_traps, mapped_traps, then_traps}
use Rattle.m161_replay.proofs.Loading.{no_word, refers_if, word_loads}

-- What is seen of a Step before it is made is what is told of it once it was made.

-- the outcome of a Step that fetches

stays_on : (off : Bool) → (if off && not off then outcomes.PoweredOff else outcomes.Ran) ≡ outcomes.Ran
stays_on true = refl
stays_on false = refl

change_runs : (s : Scene) (c : Change) → c.row ≡ None → unwrap_or c.board s.around.board ≡ s.around.board → (step_of_change s c).outcome ≡ outcomes.Ran
change_runs s c row board =
    ap (λ x. outcome_after x (switches_off s.around.board (around_after c s.around).board)) (none_written s.around.strict s.processor.rows c.row row)
    ∙ ap (λ (b : BoardState). outcome_after None (switches_off s.around.board b)) board ∙ stays_on s.around.board.off

result_runs : (s : Scene) (r : Result Change _) → Runs s r → (step_of_result (awake s) r).outcome ≡ outcomes.Ran
result_runs s (Ok c) h = change_runs (awake s) c h.0 h.1
result_runs s (Err f) h = absurd (h)

by_off : (off : Bool) → fetches_none (if off then outcomes.PoweredOff else outcomes.Ran) ≡ false
by_off true = refl
by_off false = refl

by_conflict : (o : Option (ℕ × ℕ)) (off : Bool) → fetches_none (outcome_after o off) ≡ false
by_conflict None off = by_off off
by_conflict (Some conflict) off = refl

result_fetches : (s : Scene) (r : Result Change _) (x : Stepped) → x ≡ step_of_result (awake s) r → Traps r (λ f. exception_of f.kind) → fetches_none x.outcome ≡ false
result_fetches s (Ok c) x is h =
    ap (λ (y : Stepped). fetches_none y.outcome) is
    ∙ by_conflict (conflict_of (awake s) c) (switches_off (awake s).around.board (around_after c (awake s).around).board)
result_fetches s (Err f) x is h = ap (λ (y : Stepped). fetches_none y.outcome) is ∙ h

-- the fetch

usable_traps : (t : Bool) (c : Control) (word : ℕ) → is_unusable c word ≡ t → Traps (usable c word) (λ f. exception_of f.kind)
usable_traps true c word h = rw h refl
usable_traps false c word h = rw h tt

fetched_traps : (s : Scene) → Traps (fetched_change s) (λ f. exception_of f.kind)
fetched_traps s =
    then_traps (λ f. exception_of f.kind) (executable_word s.around.memory s.processor) (change_in s)
    (then_traps (λ f. exception_of f.kind) (word_at_pc s.around.memory s.processor) (usable s.processor.control)
    (mapped_traps (λ f. exception_of f.kind) _ _ (reach_traps _ 4 s.processor.pc (length s.around.memory) s.processor refl))
    (λ word. usable_traps (is_unusable s.processor.control word) s.processor.control word refl))
    (instruction_traps s)

fetch_is : (s : Scene) (t : Bool) → fetches s ≡ t → fetches_none (step_of s).outcome ≡ not t
fetch_is s true h = result_fetches s (fetched_change s) (step_of s) (step_fetches s h) (fetched_traps s)
fetch_is s false h = none (step_doesnt_fetch s h)
  where
    none : NoFetch s (step_of s) → fetches_none (step_of s).outcome ≡ true
    none (inl idle, stored) = ap fetches_none idle
    none (inr trap, stored) = ap (λ (x : Stepped). fetches_none x.outcome) trap

if_fetches : {X : Type 0} (t none : Bool) (x y : X) → none ≡ not t → (if t then x else y) ≡ (if none then y else x)
if_fetches true none x y h = ap (λ (b : Bool). if b then y else x) (sym h)
if_fetches false none x y h = ap (λ (b : Bool). if b then y else x) (sym h)

fetched_as : (p : ℕ) (s : State) (o : Outcome) → (step_result p s).outcome ≡ o → fetched_next p s ≡ fetched p s o
unfolding fetched_next step_result
fetched_as p s o is =
    if_fetches (fetches (scene_in p s)) (fetches_none o) (fetched_word s.memory (processor_at p s.processors).pc (processor_at p s.processors)) None
    (ap fetches_none (sym is) ∙ fetch_is (scene_in p s) (fetches (scene_in p s)) refl)

-- a load from RAM runs

around_of : (t : Bool) (w x : ℕ) → (if t then Some w else None) ≡ Some x → t ≡ true
around_of true w x h = refl
around_of false w x h = absurd (let bad : ◌≡◌ {A = Option ℕ} None (Some x) = h in cc)

word_of : (size : ℕ) (o : Option ℕ) (x : ℕ) → option_and_then (word_around size) o ≡ Some x → (at : ℕ) × (o ≡ Some at) × (nat_le (at / 4 * 4 + 4) size ≡ true)
word_of size None x h = absurd (let bad : ◌≡◌ {A = Option ℕ} None (Some x) = h in cc)
word_of size (Some at) x h = (at, refl, around_of (nat_le (at / 4 * 4 + 4) size) (at / 4 * 4) x h)

address_if : {F : Type 0} (store : Bool) (a : Result ℕ F) (at : ℕ) → (if store then None else physical_if a) ≡ Some at → (store ≡ false) × (a ≡ Ok at)
address_if true a at h = absurd (let bad : ◌≡◌ {A = Option ℕ} None (Some at) = h in cc)
address_if false (Ok x) at h = (refl, let same : ◌≡◌ {A = Option ℕ} (Some x) (Some at) = h in cc)
address_if false (Err f) at h = absurd (let bad : ◌≡◌ {A = Option ℕ} None (Some at) = h in cc)

reference_is : (p : Processor) (o : Option Reference) (at : ℕ) → option_and_then (loads_from p) o ≡ Some at →
    (r : Reference) × (o ≡ Some r) × (is_store r.access ≡ false) × (address_of p r ≡ Ok at)
reference_is p None at h = absurd (let bad : ◌≡◌ {A = Option ℕ} None (Some at) = h in cc)
reference_is p (Some r) at h = let a = address_if (is_store r.access) (address_of p r) at h in (r, refl, a.0, a.1)

word_runs : (s : Scene) (w : Result ℕ _) (r : Reference) (at : ℕ) → reference_after s.processor w ≡ Some r → is_store r.access ≡ false → address_of s.processor r ≡ Ok at →
    nat_le (at / 4 * 4 + 4) (length s.around.memory) ≡ true → (step_of_result (awake s) (and_then w (change_in s))).outcome ≡ outcomes.Ran
word_runs s (Err f) r at is loads address fits = absurd (let bad : ◌≡◌ {A = Option Reference} None (Some r) = is in cc)
word_runs s (Ok word) r at is loads address fits =
    let run : RunsBy s (Some r) (change_in s word) = subst (λ o. RunsBy s o (change_in s word)) is (instruction_runs s word) in
    result_runs s (change_in s word) (run loads at address fits)

step_runs : (s : Scene) (t : Bool) (r : Reference) (at : ℕ) → fetches s ≡ t → reference_of_step s ≡ Some r → is_store r.access ≡ false → address_of s.processor r ≡ Ok at →
    nat_le (at / 4 * 4 + 4) (length s.around.memory) ≡ true → (step_of s).outcome ≡ outcomes.Ran
step_runs s false r at h is loads address fits =
    absurd (let bad : ◌≡◌ {A = Option Reference} None (Some r) = sym (refers_if s false h) ∙ is in cc)
step_runs s true r at h is loads address fits =
    ap (λ (x : Stepped). x.outcome) (step_fetches s h)
    ∙ word_runs s (executable_word s.around.memory s.processor) r at (sym (refers_if s true h) ∙ is) loads address fits

load_runs : (p : ℕ) (s : State) (x : ℕ) → loaded_next p s ≡ Some x → (step_result p s).outcome ≡ outcomes.Ran
unfolding loaded_next step_result
load_runs p s x h =
    let w = word_of (length s.memory) _ x h in
    let r = reference_is (processor_at p s.processors) (reference_of_step (scene_in p s)) w.0 w.1 in
    step_runs (scene_in p s) (fetches (scene_in p s)) r.0 w.0 refl r.1 r.2 r.3 w.2

-- a Step that runs loads what is seen

found_word : (w : Result ℕ _) (word : ℕ) → word_found w ≡ Some word → w ≡ Ok word
found_word (Ok other) word h = let same : ◌≡◌ {A = Option ℕ} (Some other) (Some word) = h in cc
found_word (Err f) word h = absurd (let bad : ◌≡◌ {A = Option ℕ} None (Some word) = h in cc)

runs_usable : (s : Scene) (t : Bool) (word : ℕ) (f : _) → (step_of_result (awake s) (and_then (if t then Err f else Ok word) (change_in s))).outcome ≡ outcomes.Ran → t ≡ false
runs_usable s true word f ran = absurd (cc)
runs_usable s false word f ran = refl

may_use : (s : Scene) (t : Bool) (word : ℕ) → fetches s ≡ t → (if t then fetched_word s.around.memory s.processor.pc s.processor else None) ≡ Some word → (step_of s).outcome ≡ outcomes.Ran →
    is_unusable s.processor.control word ≡ false
unfolding fetched_word
may_use s false word h is ran = absurd (let no : ◌≡◌ {A = Option ℕ} None (Some word) = is in cc)
may_use s true word h is ran =
    let at : word_at_pc s.around.memory s.processor ≡ Ok word = found_word (word_at_pc s.around.memory s.processor) word is in
    runs_usable s (is_unusable s.processor.control word) word _
    (sym (ap (λ w. (step_of_result (awake s) (and_then (and_then w (usable s.processor.control)) (change_in s))).outcome) at)
    ∙ ap (λ (x : Stepped). x.outcome) (sym (step_fetches s h)) ∙ ran)

usable_by : (p : ℕ) (s : State) (word : ℕ) → fetched_next p s ≡ Some word → (step_result p s).outcome ≡ outcomes.Ran → is_unusable (processor_at p s.processors).control word ≡ false
unfolding fetched_next step_result
usable_by p s word is ran = may_use (scene_in p s) (fetches (scene_in p s)) word refl is ran

ran_loads : (p : ℕ) (s : State) (o : Option ℕ) → fetched_next p s ≡ o → (step_result p s).outcome ≡ outcomes.Ran → loaded_next p s ≡ loaded p s outcomes.Ran
unfolding loaded loaded_address
ran_loads p s None is ran =
    let here : fetched p s outcomes.Ran ≡ None = sym (fetched_as p s outcomes.Ran ran) ∙ is in
    sym (no_word p s is) ∙ sym (ap (λ o. option_and_then (word_around (length s.memory)) (option_and_then (loads_by (processor_at p s.processors)) o)) here)
ran_loads p s (Some word) is ran =
    let here : fetched p s outcomes.Ran ≡ Some word = sym (fetched_as p s outcomes.Ran ran) ∙ is in
    let may = usable_by p s word is ran in
    sym (word_loads p s word (loads_by (processor_at p s.processors) word) is may refl)
    ∙ sym (ap (λ o. option_and_then (word_around (length s.memory)) (option_and_then (loads_by (processor_at p s.processors)) o)) here)

-- one that doesn't loads nothing

loads_none : (p : ℕ) (s : State) (o : Outcome) (x : Option ℕ) → (o ≡ outcomes.Ran → ⊥) → (step_result p s).outcome ≡ o → loaded_next p s ≡ x → loaded_next p s ≡ None
loads_none p s o None other is h = h
loads_none p s o (Some word) other is h = absurd (other (sym is ∙ load_runs p s word h))

loads_as : (p : ℕ) (s : State) (o : Outcome) → (step_result p s).outcome ≡ o → loaded_next p s ≡ loaded_by p s o
loads_as p s outcomes.Ran is = ran_loads p s (fetched_next p s) refl is
loads_as p s (outcomes.Trapped code vector) is = loads_none p s (outcomes.Trapped code vector) (loaded_next p s) (λ h. absurd (cc)) is refl
loads_as p s outcomes.Idle is = loads_none p s outcomes.Idle (loaded_next p s) (λ h. absurd (cc)) is refl
loads_as p s outcomes.PoweredOff is = loads_none p s outcomes.PoweredOff (loaded_next p s) (λ h. absurd (cc)) is refl
loads_as p s (outcomes.Conflict row other) is = loads_none p s (outcomes.Conflict row other) (loaded_next p s) (λ h. absurd (cc)) is refl
loads_as p s outcomes.Taken is = loads_none p s outcomes.Taken (loaded_next p s) (λ h. absurd (cc)) is refl

-- a store in RAM runs

-- it changes neither a row nor the board
abbrev StoresAlone : Change → Type 0
StoresAlone c = is_some c.store ≡ true → (c.row ≡ None) × (c.board ≡ None)

alone : {E : Type 0} (far : Bool) (r : Result Change E) → IfOk r (NearChange far) → IfOk r StoresAlone
alone far (Ok c) near = λ h. near.near (inr h)
alone far (Err f) near = tt

three_alone : (s : Scene) (e : Effect) (l : List Argument) → IfOk (with_three (effect_of s e) l) StoresAlone
three_alone s e [] = alone (is_far e) _ (near_effect s e _ _ _)
three_alone s e (a ∷ []) = alone (is_far e) _ (near_effect s e a _ _)
three_alone s e (a ∷ b ∷ []) = alone (is_far e) _ (near_effect s e a b _)
three_alone s e (a ∷ b ∷ c ∷ l) = alone (is_far e) _ (near_effect s e a b c)

row_alone : (s : Scene) (word : ℕ) (o : Option TableRow) → IfOk (change_by_row s word o) StoresAlone
row_alone s word None = tt
row_alone s word (Some r) =
    three_alone s (table r).effect (arguments s.processor (table r).operands (numbers_of word (Some r)))

word_alone : (s : Scene) (w : Result ℕ _) → IfOk (and_then w (change_in s)) StoresAlone
word_alone s (Ok word) = row_alone s word (row_that_fits word)
word_alone s (Err f) = tt

stores : (o : Option Store) (word : ℕ) → stored_by o ≡ Some word → is_some o ≡ true
stores None word h = absurd (let bad : ◌≡◌ {A = Option ℕ} None (Some word) = h in cc)
stores (Some store) word h = refl

result_stores : (s : Scene) (r : Result Change _) (word : ℕ) → IfOk r StoresAlone → (step_of_result (awake s) r).stored ≡ Some word → (step_of_result (awake s) r).outcome ≡ outcomes.Ran
result_stores s (Ok c) word h stored =
    let only = h (stores c.store word stored) in
    change_runs (awake s) c only.0 (ap (λ (o : Option BoardState). unwrap_or o s.around.board) only.1)
result_stores s (Err f) word h stored = absurd (let bad : ◌≡◌ {A = Option ℕ} None (Some word) = stored in cc)

store_runs : (s : Scene) (t : Bool) (word : ℕ) → fetches s ≡ t → (step_of s).stored ≡ Some word → (step_of s).outcome ≡ outcomes.Ran
store_runs s true word h stored =
    let is = step_fetches s h in
    ap (λ (x : Stepped). x.outcome) is
    ∙ result_stores s (fetched_change s) word (word_alone s (executable_word s.around.memory s.processor)) (ap (λ (x : Stepped). x.stored) (sym is) ∙ stored)
store_runs s false word h stored =
    let none = (step_doesnt_fetch s h).1 in
    absurd (let bad : ◌≡◌ {A = Option ℕ} None (Some word) = sym none ∙ stored in cc)

stores_ran : (p word : ℕ) (s : State) → (uses_in p s).stored ≡ Some word → (step_result p s).outcome ≡ outcomes.Ran
unfolding uses_in uses_of step_result
stores_ran p word s h = store_runs (scene_in p s) (fetches (scene_in p s)) word refl h

-- the law

outcome_is : (p : ℕ) (s t : State) (o : Outcome) → next s (Step p) ≡ Ok (o, t) → (step_result p s).outcome ≡ o
outcome_is p s t o h = ap (λ (x : Outcome × State). x.0) (accepted p s o t h).given

pub seen_is_made : SeenIsMade
seen_is_made = record {
  fetch = λ p s t o h. fetched_as p s o (outcome_is p s t o h);
  load = λ p s t o h. loads_as p s o (outcome_is p s t o h);
  store = λ p word s t o h stored. sym (outcome_is p s t o h) ∙ stores_ran p word s stored;
}
