use Rattle.std.proofs.Common.{◌≡◌, ◌⊎◌, inl, inr, ◌∙◌, refl, sym, ap, subst, ℕ, ◌<◌, Bool, true, false, List, [], ◌∷◌, length, set, Option, None, Some, Result, Ok, Err, arith, get_or-set_same}
use Rattle.std.specs.Prelude.{IfOk, if◌then◌else◌, is_some, nat_le, unwrap_or}
use Rattle.std.proofs.lemmas.Bool.Decides.{nat_tests}
use Rattle.m161_isa.specs.Choice.{first_answer}
use Rattle.m161_isa.specs.declared.effect.Effect.{Effect}
use Rattle.m161_isa.specs.declared.table.Row.{Row as TableRow}
use Rattle.m161_isa.specs.Table.{numbers_of, row_that_fits, table}
use Rattle.m161_tlb.specs.declared.row.Row.{Row}
use Rattle.m161_cop0.specs.Control.{is_interrupted, is_pending}
use Rattle.m161_bus.specs.Board.{BoardState}
use Rattle.m161_cpu.specs.declared.processor.Outcome.{Outcome}
use Rattle.m161_cpu.specs.declared.processor.ProcessorState.{ProcessorState}
use Rattle.m161_cpu.specs.declared.processor.ProcessorState.TheVariants.{Stopped, Running, Waiting}
use Rattle.m161_cpu.specs.Fetch.{fetched_word, word_found}
use Rattle.m161_cpu.specs.Processor.{Processor, stopped_processor, with_control, with_hi_lo, with_register, with_row, with_state}
use Rattle.m161_cpu.specs.Scene.{Change, Scene, Store, and_then, apply_part, around, processor_after, scene, stored_by}
use Rattle.m161_cpu.specs.Translation.{is_misaddressed, physical_at}
use Rattle.m161_cpu.specs.Effect.{Argument, arguments, effect_of, with_three}
use Rattle.m161_cpu.specs.Step.{Stepped, change_by_row, change_in, change_of_step, conflict_in, executable_word, idle, is_unusable, lines_in, running_step, step_by_conflict, step_by_state, step_of, step_of_change, step_of_result, tick, usable, with_processor, word_at_pc}
use Rattle.m161_cpu.specs.Uses.{uses_of}
use Rattle.m161_machine.specs.declared.event.Event.TheVariants.{Step}
use Rattle.m161_machine.specs.declared.event.Refusal.{Refusal}
use Rattle.m161_machine.specs.declared.event.Refusal.TheVariants.{BadProcessor, Off, Worn}
use Rattle.m161_machine.specs.State.{State, next, processor_at, step_result, unless, with_step}
use Rattle.m161_machine.specs.Uses.{uses_in}
use Rattle.m161_trace.specs.helpers.Adds.{AreAlike}
use Rattle.m161_trace.specs.helpers.Far.{is_far, is_far_found, is_far_row, is_far_word}
use Rattle.m161_trace.specs.helpers.Near.{IsNear}
use Rattle.m161_trace.proofs.NearEffects.{NearChange, near_effect}
use Rattle.m161_trace.proofs.Started.{as_many, no_starts}
use Rattle.std.proofs.lemmas.List.{length-set}

-- Steps that change no row of the TLB, and nothing of the board.

pub record NearStep (s : Scene) (x : Stepped) : Type 0 where
  pub rows : x.after.processor.rows ≡ s.processor.rows
  pub board : x.after.around.board ≡ s.around.board

-- a change of other parts keeps the rows

kept_by_part : {A : Type 0} (f : A → Processor → Processor) → ((a : A) (p : Processor) → (f a p).rows ≡ p.rows) → (o : Option A) (p : Processor) →
    (apply_part f o p).rows ≡ p.rows
kept_by_part f keeps None p = refl
kept_by_part f keeps (Some a) p = keeps a p

kept_by_none : (o : Option (ℕ × Row)) (p : Processor) → o ≡ None → (apply_part (λ (x : ℕ × Row). with_row x.0 x.1) o p).rows ≡ p.rows
kept_by_none None p none = refl
kept_by_none (Some x) p none = absurd (let bad : ◌≡◌ {A = Option (ℕ × Row)} (Some x) None = none in cc)

pub kept_rows : (c : Change) (p : Processor) → c.row ≡ None → (processor_after c p).rows ≡ p.rows
kept_rows c p none =
    let with_words = apply_part (λ (x : ℕ × ℕ). with_register x.0 x.1) c.register p in
    let with_pair = apply_part with_hi_lo c.hi_lo with_words in
    let with_registers = apply_part with_control c.control with_pair in
    let with_rows = apply_part (λ (x : ℕ × Row). with_row x.0 x.1) c.row with_registers in
    kept_by_part with_state (λ _ _. refl) c.state with_rows
    ∙ kept_by_none c.row with_registers none
    ∙ kept_by_part with_control (λ _ _. refl) c.control with_pair
    ∙ kept_by_part with_hi_lo (λ _ _. refl) c.hi_lo with_words
    ∙ kept_by_part (λ (x : ℕ × ℕ). with_register x.0 x.1) (λ _ _. refl) c.register p

is_stored : (o : Option Store) → is_some (stored_by o) ≡ true → is_some o ≡ true
is_stored None h = h
is_stored (Some store) h = refl

abbrev FarOr : Bool → Option ℕ → Type 0
FarOr far stored = (far ≡ false) ⊎ (is_some stored ≡ true)

of_stored : (far : Bool) (o : Option Store) → FarOr far (stored_by o) → (far ≡ false) ⊎ (is_some o ≡ true)
of_stored far o (inl h) = inl h
of_stored far o (inr h) = inr (is_stored o h)

-- What each effect has, by whether it is a far one, the instruction of a Step has.

-- the word that is fetched is that of a far instruction
abbrev pub is_far_at : Scene → Bool
is_far_at s = is_far_found (word_found (word_at_pc s.around.memory s.processor))

abbrev EachEffect : Scene → (Bool → Change → Type 0) → Type 0
EachEffect s P = (e : Effect) (a b c : Argument) → IfOk (effect_of s e a b c) (P (is_far e))

three : (s : Scene) (P : Bool → Change → Type 0) → EachEffect s P → (e : Effect) (l : List Argument) → IfOk (with_three (effect_of s e) l) (P (is_far e))
three s P each e [] = each e _ _ _
three s P each e (a ∷ []) = each e a _ _
three s P each e (a ∷ b ∷ []) = each e a b _
three s P each e (a ∷ b ∷ c ∷ l) = each e a b c

of_row : (s : Scene) (P : Bool → Change → Type 0) → EachEffect s P → (word : ℕ) (o : Option TableRow) → IfOk (change_by_row s word o) (P (is_far_row o))
of_row s P each word None = tt
of_row s P each word (Some r) = three s P each (table r).effect (arguments s.processor (table r).operands (numbers_of word (Some r)))

of_usable : (t : Bool) (s : Scene) (P : Bool → Change → Type 0) → EachEffect s P → (word : ℕ) (f : _) →
    IfOk (and_then (if t then Err f else Ok word) (change_in s)) (P (is_far_word word))
unfolding is_far_word
of_usable true s P each word f = tt
of_usable false s P each word f = of_row s P each word (row_that_fits word)

of_word : (s : Scene) (P : Bool → Change → Type 0) → EachEffect s P → (w : Result ℕ _) →
    IfOk (and_then (and_then w (usable s.processor.control)) (change_in s)) (P (is_far_found (word_found w)))
of_word s P each (Ok word) = of_usable (is_unusable s.processor.control word) s P each word _
of_word s P each (Err e) = tt

of_interrupt : (t : Bool) (s : Scene) (P : Bool → Change → Type 0) → EachEffect s P → (f : _) →
    IfOk (if t then Err f else and_then (executable_word s.around.memory s.processor) (change_in s)) (P (is_far_at s))
of_interrupt true s P each f = tt
of_interrupt false s P each f = of_word s P each (word_at_pc s.around.memory s.processor)

pub in_instruction : (s : Scene) (P : Bool → Change → Type 0) → EachEffect s P → IfOk (change_of_step s) (P (is_far_at s))
unfolding change_of_step
in_instruction s P each = of_interrupt (is_interrupted (lines_in s) s.processor.control) s P each _

pub near_instruction : (s : Scene) → IfOk (change_of_step s) (NearChange (is_far_at s))
near_instruction s = in_instruction s NearChange (near_effect s)

-- a near Step has no conflict

pub none_written : (strict : Bool) (rows : List Row) (o : Option (ℕ × Row)) → o ≡ None → conflict_in strict rows o ≡ None
none_written strict rows None none = refl
none_written strict rows (Some written) none = absurd (let bad : ◌≡◌ {A = Option (ℕ × Row)} (Some written) None = none in cc)

near_change : (far : Bool) (s : Scene) (c : Change) → NearChange far c → FarOr far (stored_by c.store) → NearStep s (step_of_change s c)
near_change far s c f h =
    let n = f.near (of_stored far c.store h) in
    subst (λ conflict. NearStep s (step_by_conflict conflict s c)) (sym (none_written s.around.strict s.processor.rows c.row n.0))
    (record { rows = kept_rows c s.processor n.0; board = ap (λ (o : Option BoardState). unwrap_or o s.around.board) n.1 })

near_result : (far : Bool) (s : Scene) (r : Result Change _) → IfOk r (NearChange far) → FarOr far (step_of_result s r).stored → NearStep s (step_of_result s r)
near_result far s (Ok c) f h = near_change far s c f h
near_result far s (Err e) f h = record { rows = refl; board = refl }

-- the word that is fetched isn't that of a far instruction, or the Step stores to RAM
abbrev Condition : Scene → Stepped → Type 0
Condition s x = FarOr (is_far_at s) x.stored

near_running : (s : Scene) → Condition s (running_step s) → NearStep s (running_step s)
near_running s h = near_result (is_far_at s) s (change_of_step s) (near_instruction s) h

same_word : (memory : List ℕ) (p : Processor) → word_at_pc memory (with_state Running p) ≡ word_at_pc memory p
unfolding physical_at is_misaddressed
same_word memory p = refl

near_waiting : (s : Scene) (pending : Bool) → Condition s (if pending then running_step (with_processor (with_state Running) s) else idle tick s) →
    NearStep s (if pending then running_step (with_processor (with_state Running) s) else idle tick s)
near_waiting s true h =
    let awake = with_processor (with_state Running) s in
    let n = near_running awake (subst (λ w. FarOr (is_far_found (word_found w)) (running_step awake).stored) (sym (same_word s.around.memory s.processor)) h) in
    record { rows = n.rows; board = n.board }
near_waiting s false h = record { rows = refl; board = refl }

near_state : (state : ProcessorState) (s : Scene) → Condition s (step_by_state state s) → NearStep s (step_by_state state s)
near_state Stopped s h = record { rows = refl; board = refl }
near_state Running s h = near_running s h
near_state Waiting s h = near_waiting s (is_pending (lines_in s) s.processor.control) h

near_step : (s : Scene) → Condition s (step_of s) → NearStep s (step_of s)
unfolding step_of
near_step s h = near_state s.processor.state s h

-- accepted Steps

passed : (a b c : Bool) (x : Result (Outcome × State) Refusal) (r : Outcome × State) → unless (first_answer ((a, BadProcessor) ∷ (b, Off) ∷ (c, Worn) ∷ [])) x ≡ Ok r
    → (a ≡ false) × (b ≡ false) × (x ≡ Ok r)
passed true b c x r h = absurd (let bad : ◌≡◌ {A = Result (Outcome × State) Refusal} (Err BadProcessor) (Ok r) = h in cc)
passed false true c x r h = absurd (let bad : ◌≡◌ {A = Result (Outcome × State) Refusal} (Err Off) (Ok r) = h in cc)
passed false false true x r h = absurd (let bad : ◌≡◌ {A = Result (Outcome × State) Refusal} (Err Worn) (Ok r) = h in cc)
passed false false false x r h = (refl, refl, h)

pub record Accepted (p : ℕ) (s : State) (o : Outcome) (t : State) : Type 0 where
  pub place : p < length s.processors
  pub on : s.board.off ≡ false
  pub given : ◌≡◌ {A = Outcome × State} ((step_result p s).outcome, with_step p (step_result p s) s) (o, t)

pub accepted : (p : ℕ) (s : State) (o : Outcome) (t : State) → next s (Step p) ≡ Ok (o, t) → Accepted p s o t
unfolding next
accepted p s o t h =
    let tests = passed (nat_le (length s.processors) p) s.board.off (nat_le 9223372036854775807 s.made) _ (o, t) h in
    let there : nat_le (length s.processors) p ≡ false = tests.0 in
    let result : ◌≡◌ {A = Result (Outcome × State) Refusal} (Ok ((step_result p s).outcome, with_step p (step_result p s) s)) (Ok (o, t)) = tests.2 in
    record {
      place = grind (arith, nat_tests, there);
      on = tests.1;
      given = cc;
    }

alike_after : (p : ℕ) (s : State) → p < length s.processors → AreAlike p s (with_step p (step_result p s) s)
alike_after p s place = record {
  place = place;
  as_many = as_many s.board.started (step_result p s).after.around.board 0 (set s.processors p (step_result p s).after.processor) ∙ simp length-set;
}

pub alike : (p : ℕ) (s : State) (o : Outcome) (t : State) → next s (Step p) ≡ Ok (o, t) → AreAlike p s t
alike p s o t h =
    let a = accepted p s o t h in
    subst (λ (r : Outcome × State). AreAlike p s r.1) a.given (alike_after p s a.place)

pub stored_is : (p : ℕ) (s : State) → (uses_in p s).stored ≡ (step_result p s).stored
unfolding uses_in uses_of step_result
stored_is p s = refl

near_of : (p : ℕ) (s : State) → FarOr (is_far_found (word_found (word_at_pc s.memory (processor_at p s.processors)))) (step_result p s).stored →
    NearStep (scene (processor_at p s.processors) (around p s.memory s.board s.links s.conf.strict)) (step_result p s)
unfolding step_result
near_of p s h = near_step (scene (processor_at p s.processors) (around p s.memory s.board s.links s.conf.strict)) h

-- the rows of the processor, where the Step starts none
pub rows_after : (p : ℕ) (s : State) (x : Stepped) → p < length s.processors → x.after.around.board.started ≡ s.board.started → x.after.processor.rows ≡ (processor_at p s.processors).rows →
    (processor_at p (with_step p x s).processors).rows ≡ (processor_at p s.processors).rows
rows_after p s x place started rows =
    let kept = no_starts s.board.started x.after.around.board 0 (set s.processors p x.after.processor) started in
    let own = get_or-set_same s.processors p x.after.processor stopped_processor place in
    ap (λ (ps : List Processor). (processor_at p ps).rows) kept ∙ ap (λ (q : Processor). q.rows) own ∙ rows

near_after : (p : ℕ) (s : State) → p < length s.processors → NearStep (scene (processor_at p s.processors) (around p s.memory s.board s.links s.conf.strict)) (step_result p s) →
    IsNear p s (with_step p (step_result p s) s)
near_after p s place n = record {
  rows = rows_after p s (step_result p s) place (ap (λ (b : BoardState). b.started) n.board) n.rows;
  places = ap (λ (b : BoardState). b.places) n.board;
}

pub near : (p : ℕ) (s : State) (o : Outcome) (t : State) → next s (Step p) ≡ Ok (o, t) →
    FarOr (is_far_found (fetched_word s.memory (processor_at p s.processors).pc (processor_at p s.processors))) (uses_in p s).stored → IsNear p s t
unfolding fetched_word
near p s o t h cond =
    let a = accepted p s o t h in
    let R : Option ℕ → Type 0 = λ stored. FarOr (is_far_found (word_found (word_at_pc s.memory (processor_at p s.processors)))) stored in
    subst (λ (r : Outcome × State). IsNear p s r.1) a.given (near_after p s a.place (near_of p s (subst R (stored_is p s) cond)))
