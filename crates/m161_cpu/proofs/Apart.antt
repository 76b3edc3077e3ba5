use Rattle.std.proofs.Common.{◌≡◌, ◌∙◌, ap, sym, refl, subst, ℕ, ◌%◌, ◌^◌, Bool, true, false, List, Option, None, Some, Result, Ok, Err, arith}
use Rattle.std.specs.Prelude.{if◌then◌else◌, option_map, slice_set}
use Rattle.m161_tlb.specs.declared.row.Row.{Row}
use Rattle.m161_tlb.specs.Rows.{AreApart, find_overlap}
use Rattle.m161_tlb.proofs.Apart.{apart_set, overlap_places}
use Rattle.m161_cop0.specs.Control.{is_pending}
use Rattle.m161_cpu.specs.declared.fault.StepFault.{StepFault}
use Rattle.m161_cpu.specs.declared.processor.Outcome.{Outcome}
use Rattle.m161_cpu.specs.declared.processor.ProcessorState.{ProcessorState}
use Rattle.m161_cpu.specs.declared.processor.ProcessorState.TheVariants.{Stopped, Running, Waiting}
use Rattle.m161_cpu.specs.Processor.{Processor, with_control, with_hi_lo, with_register, with_row, with_state}
use Rattle.m161_cpu.specs.Scene.{Change, Scene, apply_part, processor_after}
use Rattle.m161_cpu.specs.Step.{AreTwoRows, Leaves, Stepped, change_of_step, conflict_in, conflict_of, idle, lines_in, running_step, step_by_conflict, step_by_state, step_of, step_of_result, tick, with_processor, without_row}

-- A Step of a strict machine leaves no two rows of its processor that overlap.

-- the rows after a change

kept_by_part : {A : Type 0} (f : A → Processor → Processor) → ((a : A) (p : Processor) → (f a p).rows ≡ p.rows) → (o : Option A) (p : Processor) →
    (apply_part f o p).rows ≡ p.rows
kept_by_part f keeps None p = refl
kept_by_part f keeps (Some a) p = keeps a p

abbrev pub rows_with : Option (ℕ × Row) → List Row → List Row
rows_with None rows = rows
rows_with (Some written) rows = slice_set rows written.0 written.1

with_part : (o : Option (ℕ × Row)) (p : Processor) → (apply_part (λ (x : ℕ × Row). with_row x.0 x.1) o p).rows ≡ rows_with o p.rows
with_part None p = refl
with_part (Some written) p = refl

same_with : (o : Option (ℕ × Row)) (rows rows' : List Row) → rows ≡ rows' → rows_with o rows ≡ rows_with o rows'
same_with o rows rows' same = λ i. rows_with o (same i)

pub rows_after : (c : Change) (p : Processor) → (processor_after c p).rows ≡ rows_with c.row p.rows
rows_after c p =
    let with_words = apply_part (λ (x : ℕ × ℕ). with_register x.0 x.1) c.register p in
    let with_pair = apply_part with_hi_lo c.hi_lo with_words in
    let with_registers = apply_part with_control c.control with_pair in
    let with_rows = apply_part (λ (x : ℕ × Row). with_row x.0 x.1) c.row with_registers in
    kept_by_part with_state (λ _ _. refl) c.state with_rows
    ∙ with_part c.row with_registers
    ∙ same_with c.row with_registers.rows p.rows
    (kept_by_part with_control (λ _ _. refl) c.control with_pair
    ∙ kept_by_part with_hi_lo (λ _ _. refl) c.hi_lo with_words
    ∙ kept_by_part (λ (x : ℕ × ℕ). with_register x.0 x.1) (λ _ _. refl) c.register p)

-- the row that is written after all

abbrev left : Option (ℕ × ℕ) → Option (ℕ × Row) → Option (ℕ × Row)
left None row = row
left (Some conflict) row = None

row_left : (conflict : Option (ℕ × ℕ)) (c : Change) → (without_row conflict c).row ≡ left conflict c.row
row_left None c = refl
row_left (Some conflict) c = refl

apart_by_overlap : (rows : List Row) (written : ℕ × Row) (found : Option ℕ) → find_overlap rows (written.0 % 2 ^ 6) written.1 ≡ found → AreApart rows →
    AreApart (rows_with (left (option_map (λ j. (written.0 % 2 ^ 6, j)) found) (Some written)) rows)
apart_by_overlap rows written None none apart = apart_set rows written.0 written.1 apart none
apart_by_overlap rows written (Some j) found apart = apart

apart_by_row : (rows : List Row) (row : Option (ℕ × Row)) → AreApart rows → AreApart (rows_with (left (conflict_in true rows row) row) rows)
apart_by_row rows None apart = apart
apart_by_row rows (Some written) apart = apart_by_overlap rows written (find_overlap rows (written.0 % 2 ^ 6) written.1) refl apart

-- a Step

abbrev StaysApart : Scene → Stepped → Type 0
StaysApart s x = AreApart s.processor.rows → AreApart x.after.processor.rows

apart_by_conflict : (s : Scene) (c : Change) (conflict : Option (ℕ × ℕ)) → AreApart (rows_with (left conflict c.row) s.processor.rows) → AreApart (step_by_conflict conflict s c).after.processor.rows
apart_by_conflict s c conflict apart =
    subst AreApart (sym (rows_after (without_row conflict c) s.processor ∙ (λ i. rows_with (row_left conflict c i) s.processor.rows))) apart

apart_after : (s : Scene) (r : Result Change StepFault) → s.around.strict ≡ true → StaysApart s (step_of_result s r)
apart_after s (Ok c) strict apart =
    apart_by_conflict s c (conflict_of s c)
    (subst (λ t. AreApart (rows_with (left (conflict_in t s.processor.rows c.row) c.row) s.processor.rows)) (sym strict) (apart_by_row s.processor.rows c.row apart))
apart_after s (Err f) strict apart = apart

apart_waiting : (s : Scene) (pending : Bool) → s.around.strict ≡ true → StaysApart s (if pending then running_step (with_processor (with_state Running) s) else idle tick s)
apart_waiting s true strict apart =
    apart_after (with_processor (with_state Running) s) (change_of_step (with_processor (with_state Running) s)) strict apart
apart_waiting s false strict apart = apart

apart_in : (state : ProcessorState) (s : Scene) → s.around.strict ≡ true → StaysApart s (step_by_state state s)
apart_in Stopped s strict apart = apart
apart_in Running s strict apart = apart_after s (change_of_step s) strict apart
apart_in Waiting s strict apart = apart_waiting s (is_pending (lines_in s) s.processor.control) strict apart

pub step_apart : (s : Scene) → s.around.strict ≡ true → AreApart s.processor.rows → AreApart (step_of s).after.processor.rows
unfolding step_of
step_apart s strict apart = apart_in s.processor.state s strict apart

-- the same of the processor that the Step leaves
pub leaves_apart : (s after : Scene) (o : Outcome) → Leaves (step_of s) o after → s.around.strict ≡ true → AreApart s.processor.rows → AreApart after.processor.rows
leaves_apart s after o l strict apart = subst AreApart (sym (ap (λ (p : Processor). p.rows) l.processor_is)) (step_apart s strict apart)

-- a conflict is of two rows

of_overlap : (rows : List Row) (i : ℕ) (row : Row) (found : Option ℕ) → find_overlap rows (i % 2 ^ 6) row ≡ found → (conflict : ℕ × ℕ) →
    option_map (λ j. (i % 2 ^ 6, j)) found ≡ Some conflict → AreTwoRows conflict.0 conflict.1
of_overlap rows i row None found conflict h = absurd (let bad : ◌≡◌ {A = Option (ℕ × ℕ)} None (Some conflict) = h in cc)
of_overlap rows i row (Some j) found conflict h =
    let places = overlap_places rows (i % 2 ^ 6) j row found in
    let same : (i % 2 ^ 6, j) ≡ conflict = let pair : ◌≡◌ {A = Option (ℕ × ℕ)} (Some (i % 2 ^ 6, j)) (Some conflict) = h in cc in
    subst (λ (x : ℕ × ℕ). AreTwoRows x.0 x.1) same (omega arith, places.0, λ e. places.1 (sym e))

pub two_rows : (strict : Bool) (rows : List Row) (row : Option (ℕ × Row)) (conflict : ℕ × ℕ) → conflict_in strict rows row ≡ Some conflict → AreTwoRows conflict.0 conflict.1
two_rows strict rows None conflict h = absurd (let bad : ◌≡◌ {A = Option (ℕ × ℕ)} None (Some conflict) = h in cc)
two_rows true rows (Some written) conflict h =
    of_overlap rows written.0 written.1 (find_overlap rows (written.0 % 2 ^ 6) written.1) refl conflict h
two_rows false rows (Some written) conflict h = absurd (let bad : ◌≡◌ {A = Option (ℕ × ℕ)} None (Some conflict) = h in cc)
