use Rattle.std.proofs.Common.{◌≡◌, ◌∙◌, refl, ap, sym, subst, ℕ, Bool, true, false, List, [], ◌∷◌, Option, None, Some, Result, Ok, Err}
use Rattle.std.specs.Prelude.{◌&&◌, not, option_map, if◌then◌else◌}
use Rattle.m161_isa.specs.declared.operand.Operand.{Operand}
use Rattle.m161_isa.specs.declared.operand.Operand.TheVariants as operand
use Rattle.m161_isa.specs.Address.{branch_target, jump_target}
use Rattle.m161_isa.specs.declared.effect.Effect.{Effect}
use Rattle.m161_isa.specs.declared.table.Row.{Row}
use Rattle.m161_isa.specs.Table.{table, row_that_fits, numbers_of}
use Rattle.m161_alu.specs.declared.arithmetic.HiLoPair.{HiLoPair}
use Rattle.m161_tlb.specs.declared.row.Row.{Row as TlbRow}
use Rattle.m161_cop0.specs.Control.{Control, is_interrupted, is_pending, is_user, may_use_cop0}
use Rattle.m161_cop0.specs.Trap.{vector_of}
use Rattle.m161_cpu.specs.declared.processor.ProcessorState.{ProcessorState}
use Rattle.m161_cpu.specs.declared.processor.ProcessorState.TheVariants.{Stopped, Running, Waiting}
use Rattle.m161_cpu.specs.Processor.{Processor, with_control, with_flow, with_hi_lo, with_register, with_row, with_state}
use Rattle.m161_cpu.specs.Fault.{trap_of, with_trap}
use Rattle.m161_cpu.specs.Scene.{Scene, Change, and_then, apply_part, around_after, processor_after, result_map, scene, stored_by}
use Rattle.m161_cpu.specs.Translation.{is_misaddressed, physical_at}
use Rattle.m161_cpu.specs.Effect.{Argument, arguments, effect_of, value_of, with_three}
use Rattle.m161_cpu.specs.Step.{Stepped, change_by_row, change_in, change_of_step, conflict_of, count_step, executable_word, idle, lines_in, off_after, outcome_after, running_step, step_by_conflict, step_by_state, step_of, step_of_change, step_of_fault, step_of_result, switches_off, tick, with_processor, without_link, without_row}
use Rattle.m161_cpu.specs.Resting.{rests_in}
use Rattle.m161_cpu.specs.Uses.{fetches}
use Rattle.m161_alike.specs.declared.reads.Reads.{Reads}
use Rattle.m161_alike.specs.Reads.{AreWithin, no_reads, reads_after, reads_by_row, reads_of, reads_of_step}
use Rattle.m161_alike.specs.View.{control_view, processor_view}
use Rattle.m161_alike.proofs.Cop0.{again, ticked, trapped}
use Rattle.m161_alike.proofs.Timeless.{effect_timeless, timeless, timeless_change}

-- A Step that doesn't read time does the same whatever time it is, but for time itself.

-- what is done to a processor has the same view behind it, whether time was left out before or not
abbrev Forgets : Reads → (Processor → Processor) → Type 0
Forgets k f = (p : Processor) → processor_view k (f (processor_view k p)) ≡ processor_view k (f p)

pub seen_twice : (k : Reads) (p : Processor) → processor_view k (processor_view k p) ≡ processor_view k p
seen_twice k p = λ i. record p { control = again k p.control i; count = 0 }

both : (k : Reads) (f g : Processor → Processor) → Forgets k f → Forgets k g → Forgets k (λ p. g (f p))
both k f g first second p =
    sym (second (f (processor_view k p))) ∙ ap (λ q. processor_view k (g q)) (first p) ∙ second (f p)

abbrev put_register : Option (ℕ × ℕ) → Processor → Processor
put_register o p = apply_part (λ (x : ℕ × ℕ). with_register x.0 x.1) o p

abbrev put_hi_lo : Option HiLoPair → Processor → Processor
put_hi_lo o p = apply_part with_hi_lo o p

abbrev put_control : Option Control → Processor → Processor
put_control o p = apply_part with_control o p

abbrev put_row : Option (ℕ × TlbRow) → Processor → Processor
put_row o p = apply_part (λ (x : ℕ × TlbRow). with_row x.0 x.1) o p

abbrev put_state : Option ProcessorState → Processor → Processor
put_state o p = apply_part with_state o p

register_forgets : (k : Reads) (o : Option (ℕ × ℕ)) → Forgets k (put_register o)
register_forgets k None p = seen_twice k p
register_forgets k (Some x) p = seen_twice k (with_register x.0 x.1 p)

hi_lo_forgets : (k : Reads) (o : Option HiLoPair) → Forgets k (put_hi_lo o)
hi_lo_forgets k None p = seen_twice k p
hi_lo_forgets k (Some x) p = seen_twice k (with_hi_lo x p)

control_forgets : (k : Reads) (o : Option Control) → Forgets k (put_control o)
control_forgets k None p = seen_twice k p
control_forgets k (Some c) p = refl

row_forgets : (k : Reads) (o : Option (ℕ × TlbRow)) → Forgets k (put_row o)
row_forgets k None p = seen_twice k p
row_forgets k (Some x) p = seen_twice k (with_row x.0 x.1 p)

state_forgets : (k : Reads) (o : Option ProcessorState) → Forgets k (put_state o)
state_forgets k None p = seen_twice k p
state_forgets k (Some x) p = seen_twice k (with_state x p)

flow_forgets : (k : Reads) (flow : _) → Forgets k (with_flow flow)
flow_forgets k flow p = seen_twice k (with_flow flow p)

tick_forgets : (k : Reads) → Forgets k tick
tick_forgets k p = λ i. record p { control = ticked k p.control i; count = 0 }

trap_forgets : (k : Reads) (f : _) → Forgets k (with_trap f)
unfolding vector_of
trap_forgets k f p = λ i. record (with_trap f p) { control = trapped k (trap_of f p) p.control i; count = 0 }

-- the parts of a change behind that of coprocessor 0, and a tick
abbrev rest_of : Change → Processor → Processor
rest_of change p = tick (with_flow change.flow (put_state change.state (put_row change.row p)))

rest_forgets : (k : Reads) (change : Change) → Forgets k (rest_of change)
rest_forgets k change =
    both k (λ p. with_flow change.flow (put_state change.state (put_row change.row p))) tick
    (both k (λ p. put_state change.state (put_row change.row p)) (with_flow change.flow)
    (both k (put_row change.row) (put_state change.state) (row_forgets k change.row) (state_forgets k change.state))
    (flow_forgets k change.flow))
    (tick_forgets k)

change_forgets : (k : Reads) (change : Change) → Forgets k (λ p. tick (processor_after change p))
change_forgets k change =
    both k (λ p. put_control change.control (put_hi_lo change.hi_lo (put_register change.register p))) (rest_of change)
    (both k (λ p. put_hi_lo change.hi_lo (put_register change.register p)) (put_control change.control)
    (both k (put_register change.register) (put_hi_lo change.hi_lo) (register_forgets k change.register) (hi_lo_forgets k change.hi_lo))
    (control_forgets k change.control))
    (rest_forgets k change)

-- time that is left out of the registers that a change writes
control_put : (k : Reads) (o : Option Control) (p : Processor) →
    processor_view k (put_control (option_map (control_view k) o) p) ≡ processor_view k (put_control o p)
control_put k None p = refl
control_put k (Some c) p = λ i. record p { control = again k c i; count = 0 }

timeless_put : (k : Reads) (change : Change) (p : Processor) →
    processor_view k (tick (processor_after (timeless_change k change) p)) ≡ processor_view k (tick (processor_after change p))
timeless_put k change p =
    let q = put_hi_lo change.hi_lo (put_register change.register p) in
    sym (rest_forgets k change (put_control (option_map (control_view k) change.control) q))
    ∙ ap (λ v. processor_view k (rest_of change v)) (control_put k change.control q)
    ∙ rest_forgets k change (put_control change.control q)

-- what a Step gives, without time
abbrev pub timeless_stepped : Reads → Stepped → Stepped
timeless_stepped k x = record x { after = timeless k x.after }

-- the rest of what an instruction leaves, beside this processor
abbrev leaving : Option (ℕ × ℕ) → Scene → Change → Processor → Stepped
leaving conflict s change p = record {
  outcome = outcome_after conflict (switches_off s.around.board (around_after change s.around).board);
  after = scene p (record (around_after change s.around) {
    board = off_after conflict (around_after change s.around).board;
  });
  link = change.link;
  stored = stored_by change.store;
}

changed_from : (k : Reads) (s : Scene) (change : Change) →
    timeless_stepped k (step_of_change (timeless k s) change) ≡ timeless_stepped k (step_of_change s change)
changed_from k s change =
    ap (leaving (conflict_of s change) s change) (change_forgets k (without_row (conflict_of s change) change) s.processor)

changed_to : (k : Reads) (conflict : Option (ℕ × ℕ)) (s : Scene) (change : Change) →
    timeless_stepped k (step_by_conflict conflict s (timeless_change k change)) ≡ timeless_stepped k (step_by_conflict conflict s change)
changed_to k None s change = ap (leaving None s change) (timeless_put k change s.processor)
changed_to k (Some conflict) s change =
    ap (leaving (Some conflict) s change) (timeless_put k (record change { row = None }) s.processor)

fault_timeless : (k : Reads) (s : Scene) (f : _) →
    timeless_stepped k (step_of_fault (timeless k s) f) ≡ timeless_stepped k (step_of_fault s f)
unfolding vector_of
fault_timeless k s f =
    ap (λ p. record (step_of_fault s f) { after = scene p (without_link s.around) })
    (both k (with_trap f) tick (trap_forgets k f) (tick_forgets k) s.processor)

-- by the result of the instruction, without time
result_to : (k : Reads) (s : Scene) (r : _) →
    timeless_stepped k (step_of_result s (result_map (timeless_change k) r)) ≡ timeless_stepped k (step_of_result s r)
result_to k s (Ok change) = changed_to k (conflict_of s change) s change
result_to k s (Err f) = refl

result_from : (k : Reads) (s : Scene) (r : _) →
    timeless_stepped k (step_of_result (timeless k s) r) ≡ timeless_stepped k (step_of_result s r)
result_from k s (Ok change) = changed_from k s change
result_from k s (Err f) = fault_timeless k s f

result_timeless : (k : Reads) (s : Scene) (q r : _) → result_map (timeless_change k) q ≡ result_map (timeless_change k) r →
    timeless_stepped k (step_of_result (timeless k s) q) ≡ timeless_stepped k (step_of_result s r)
result_timeless k s q r h =
    result_from k s q ∙ sym (result_to k s q) ∙ ap (λ x. timeless_stepped k (step_of_result s x)) h ∙ result_to k s r

-- operands
same_value : (p q : Processor) → q.registers ≡ p.registers → q.pc ≡ p.pc → (o : Operand) (n : ℕ) → value_of q o n ≡ value_of p o n
same_value p q registers pc operand.Rd n = ap (λ l. value_of (record p { registers = l }) operand.Rd n) registers
same_value p q registers pc operand.Rs n = ap (λ l. value_of (record p { registers = l }) operand.Rs n) registers
same_value p q registers pc operand.Rt n = ap (λ l. value_of (record p { registers = l }) operand.Rt n) registers
same_value p q registers pc operand.Base n = ap (λ l. value_of (record p { registers = l }) operand.Base n) registers
same_value p q registers pc operand.Amount n = refl
same_value p q registers pc operand.Signed n = refl
same_value p q registers pc operand.Unsigned n = refl
same_value p q registers pc operand.Offset n = refl
same_value p q registers pc operand.Branch n = ap (λ at. branch_target at n) pc
same_value p q registers pc operand.Jump n = ap (λ at. jump_target at n) pc
same_value p q registers pc operand.Cop0 n = refl

pub same_arguments : (p q : Processor) → q.registers ≡ p.registers → q.pc ≡ p.pc → (os : List Operand) (ns : List ℕ) →
    arguments q os ns ≡ arguments p os ns
same_arguments p q registers pc [] ns = refl
same_arguments p q registers pc (o ∷ os) [] = refl
same_arguments p q registers pc (o ∷ os) (n ∷ ns) =
    λ i. record { number = n; value = same_value p q registers pc o n i } ∷ same_arguments p q registers pc os ns i

three_timeless : (k : Reads) (s : Scene) (e : Effect) (l : List Argument) → AreWithin (with_three (reads_of e) l) k →
    result_map (timeless_change k) (with_three (effect_of (timeless k s) e) l) ≡ result_map (timeless_change k) (with_three (effect_of s e) l)
three_timeless k s e [] h = effect_timeless k s e _ _ _ h
three_timeless k s e (a ∷ []) h = effect_timeless k s e a _ _ h
three_timeless k s e (a ∷ b ∷ []) h = effect_timeless k s e a b _ h
three_timeless k s e (a ∷ b ∷ c ∷ l) h = effect_timeless k s e a b c h

row_timeless : (k : Reads) (s : Scene) (word : ℕ) (o : Option Row) → AreWithin (reads_by_row s.processor word o) k →
    result_map (timeless_change k) (change_by_row (timeless k s) word o) ≡ result_map (timeless_change k) (change_by_row s word o)
row_timeless k s word None h = refl
row_timeless k s word (Some r) h =
    ap (λ l. result_map (timeless_change k) (with_three (effect_of (timeless k s) (table r).effect) l))
    (same_arguments s.processor (processor_view k s.processor) refl refl (table r).operands (numbers_of word (Some r)))
    ∙ three_timeless k s (table r).effect (arguments s.processor (table r).operands (numbers_of word (Some r))) h

word_timeless : (k : Reads) (s : Scene) (w : _) → AreWithin (reads_after s.processor w) k →
    result_map (timeless_change k) (and_then w (change_in (timeless k s))) ≡ result_map (timeless_change k) (and_then w (change_in s))
word_timeless k s (Ok word) h = row_timeless k s word (row_that_fits word) h
word_timeless k s (Err f) h = refl

pub same_word : (k : Reads) (memory : List ℕ) (p : Processor) → executable_word memory (processor_view k p) ≡ executable_word memory p
unfolding physical_at is_misaddressed is_user may_use_cop0
same_word k memory p = refl

-- a Step of a running processor that reads nothing else
abbrev RunsWithin : Reads → Scene → Type 0
RunsWithin k s =
    is_interrupted (lines_in s) s.processor.control ≡ false
    → AreWithin (reads_after s.processor (executable_word s.around.memory s.processor)) k

change_by : (k : Reads) (s : Scene) (interrupted : Bool) → is_interrupted (lines_in s) s.processor.control ≡ interrupted → RunsWithin k s →
    result_map (timeless_change k) (change_of_step (timeless k s)) ≡ result_map (timeless_change k) (change_of_step s)
unfolding change_of_step is_interrupted is_pending
change_by k s true h within = rw h refl
change_by k s false h within =
    let e = same_word k s.around.memory s.processor in
    rw h (ap (λ w. result_map (timeless_change k) (and_then w (change_in (timeless k s)))) e
    ∙ word_timeless k s (executable_word s.around.memory s.processor) (within h))

run_timeless : (k : Reads) (s : Scene) → RunsWithin k s →
    timeless_stepped k (running_step (timeless k s)) ≡ timeless_stepped k (running_step s)
run_timeless k s within =
    result_timeless k s (change_of_step (timeless k s)) (change_of_step s)
    (change_by k s (is_interrupted (lines_in s) s.processor.control) refl within)

-- what a Step reads

pub reads_if : (s : Scene) (t : Bool) → fetches s ≡ t →
    reads_of_step s ≡ (if t then reads_after s.processor (executable_word s.around.memory s.processor) else no_reads)
unfolding reads_of_step
reads_if s t h = ap (λ x. if x then reads_after s.processor (executable_word s.around.memory s.processor) else no_reads) h

same_row_reads : (p q : Processor) → q.registers ≡ p.registers → q.pc ≡ p.pc → (word : ℕ) (o : Option Row) → reads_by_row q word o ≡ reads_by_row p word o
same_row_reads p q registers pc word None = refl
same_row_reads p q registers pc word (Some r) =
    ap (with_three (reads_of (table r).effect)) (same_arguments p q registers pc (table r).operands (numbers_of word (Some r)))

pub same_reads : {F : Type 0} (p q : Processor) → q.registers ≡ p.registers → q.pc ≡ p.pc → (w : Result ℕ F) → reads_after q w ≡ reads_after p w
same_reads p q registers pc (Ok word) = same_row_reads p q registers pc word (row_that_fits word)
same_reads p q registers pc (Err f) = refl

runs_within : (k : Reads) (s : Scene) → s.processor.state ≡ Running → AreWithin (reads_of_step s) k → RunsWithin k s
runs_within k s running within = λ h.
    let fetching : fetches s ≡ true = ap (λ st. not (rests_in st (is_pending (lines_in s) s.processor.control)) && not (is_interrupted (lines_in s) s.processor.control)) running ∙ ap not h in
    subst (λ r. AreWithin r k) (reads_if s true fetching) within

-- a waiting processor that an interrupt wakes reads what it would if it were running
awake_word : (memory : List ℕ) (p : Processor) → executable_word memory (with_state Running p) ≡ executable_word memory p
unfolding physical_at is_misaddressed
awake_word memory p = refl

wakes_within : (k : Reads) (s : Scene) → s.processor.state ≡ Waiting → is_pending (lines_in s) s.processor.control ≡ true →
    AreWithin (reads_of_step s) k → RunsWithin k (with_processor (with_state Running) s)
wakes_within k s waiting pending within = λ h.
    let awake : not (rests_in s.processor.state (is_pending (lines_in s) s.processor.control)) ≡ true =
    ap (λ st. not (rests_in st (is_pending (lines_in s) s.processor.control))) waiting ∙ ap (λ x. not (not x)) pending in
    let fetching : fetches s ≡ true = ap (λ x. x && not (is_interrupted (lines_in s) s.processor.control)) awake ∙ ap not h in
    let same : reads_after (with_state Running s.processor) (executable_word s.around.memory (with_state Running s.processor)) ≡ reads_after s.processor (executable_word s.around.memory s.processor) =
    ap (reads_after (with_state Running s.processor)) (awake_word s.around.memory s.processor)
    ∙ same_reads s.processor (with_state Running s.processor) refl refl (executable_word s.around.memory s.processor) in
    subst (λ r. AreWithin r k) (reads_if s true fetching ∙ sym same) within

wait_timeless : (k : Reads) (s : Scene) (pending : Bool) → s.processor.state ≡ Waiting → is_pending (lines_in s) s.processor.control ≡ pending →
    AreWithin (reads_of_step s) k →
    timeless_stepped k (if pending then running_step (with_processor (with_state Running) (timeless k s)) else idle tick (timeless k s))
    ≡ timeless_stepped k (if pending then running_step (with_processor (with_state Running) s) else idle tick s)
wait_timeless k s true waiting h within = run_timeless k (with_processor (with_state Running) s) (wakes_within k s waiting h within)
wait_timeless k s false waiting h within = ap (λ p. record (idle tick s) { after = scene p s.around }) (tick_forgets k s.processor)

state_timeless : (k : Reads) (st : ProcessorState) (s : Scene) → s.processor.state ≡ st → AreWithin (reads_of_step s) k →
    timeless_stepped k (step_by_state st (timeless k s)) ≡ timeless_stepped k (step_by_state st s)
unfolding is_pending
state_timeless k Stopped s is within = ap (λ p. record (idle count_step s) { after = scene p s.around }) (seen_twice k s.processor)
state_timeless k Running s is within = run_timeless k s (runs_within k s is within)
state_timeless k Waiting s is within = wait_timeless k s (is_pending (lines_in s) s.processor.control) is refl within

pub step_timeless : (k : Reads) (s : Scene) → AreWithin (reads_of_step s) k →
    timeless_stepped k (step_of (timeless k s)) ≡ timeless_stepped k (step_of s)
unfolding step_of
step_timeless k s within = state_timeless k s.processor.state s refl within
