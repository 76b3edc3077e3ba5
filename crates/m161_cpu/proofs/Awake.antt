use Rattle.std.proofs.Common.{◌≡◌, ◌⊎◌, inl, inr, ◌∙◌, refl, ap, sym, subst, ℕ, Bool, true, false, List, [], ◌∷◌, Option, None, Some, Result, Ok, Err}
use Rattle.std.specs.Prelude.{if◌then◌else◌, ◌&&◌, not}
use Rattle.m161_isa.specs.declared.operand.Operand.{Operand}
use Rattle.m161_isa.specs.declared.operand.Operand.TheVariants as operand
use Rattle.m161_isa.specs.declared.effect.Effect.{Effect}
use Rattle.m161_isa.specs.declared.effect.Effect.TheVariants as effect
use Rattle.m161_isa.specs.declared.table.Row.{Row}
use Rattle.m161_isa.specs.Table.{table, row_that_fits, numbers_of}
use Rattle.m161_cop0.specs.Control.{is_pending, is_interrupted}
use Rattle.m161_cpu.specs.declared.fault.StepFault.{StepFault}
use Rattle.m161_cpu.specs.declared.fault.FaultKind.TheVariants as kind
use Rattle.m161_cpu.specs.declared.processor.Outcome.TheVariants.{Idle}
use Rattle.m161_cpu.specs.declared.processor.ProcessorState.{ProcessorState}
use Rattle.m161_cpu.specs.declared.processor.ProcessorState.TheVariants.{Stopped, Running, Waiting}
use Rattle.m161_cpu.specs.Processor.{Processor, with_state}
use Rattle.m161_cpu.specs.Scene.{Scene, Change, and_then, scene}
use Rattle.m161_cpu.specs.Fault.{fault}
use Rattle.m161_cpu.specs.Translation.{physical_at, is_misaddressed}
use Rattle.m161_cpu.specs.Effect.{Argument, arguments, value_of, with_three, effect_of}
use Rattle.m161_cpu.specs.Step.{Stepped, step_of_result, step_of_fault, change_of_step, change_by_row, change_in, executable_word, idle, lines_in, running_step, step_by_state, step_of, tick}
use Rattle.m161_cpu.specs.Resting.{rests_in}
use Rattle.m161_cpu.specs.Uses.{fetches}
use Rattle.m161_cpu.specs.UsesLaw.{awake}
use Rattle.m161_cpu.specs.helpers.Uses.{stored_of}

-- A processor that an interrupt wakes executes what it would if it were running.

same_value : (p : Processor) (o : Operand) (n : ℕ) → value_of (with_state Running p) o n ≡ value_of p o n
same_value p operand.Rd n = refl
same_value p operand.Rs n = refl
same_value p operand.Rt n = refl
same_value p operand.Amount n = refl
same_value p operand.Signed n = refl
same_value p operand.Unsigned n = refl
same_value p operand.Offset n = refl
same_value p operand.Base n = refl
same_value p operand.Branch n = refl
same_value p operand.Jump n = refl
same_value p operand.Cop0 n = refl

same_arguments : (p : Processor) (os : List Operand) (ns : List ℕ) → arguments (with_state Running p) os ns ≡ arguments p os ns
same_arguments p [] ns = refl
same_arguments p (o ∷ os) [] = refl
same_arguments p (o ∷ os) (n ∷ ns) =
    λ i. record { number = n; value = same_value p o n i } ∷ same_arguments p os ns i

same_effect : (s : Scene) (e : Effect) (a b c : Argument) → effect_of (awake s) e a b c ≡ effect_of s e a b c
unfolding physical_at is_misaddressed
same_effect s effect.ShiftLeft a b c = refl
same_effect s effect.ShiftRight a b c = refl
same_effect s effect.ShiftRightArithmetic a b c = refl
same_effect s effect.Jump a b c = refl
same_effect s effect.JumpAndLinkRegister a b c = refl
same_effect s effect.SystemCall a b c = refl
same_effect s effect.Breakpoint a b c = refl
same_effect s effect.Synchronize a b c = refl
same_effect s effect.MoveFromHi a b c = refl
same_effect s effect.MoveToHi a b c = refl
same_effect s effect.MoveFromLo a b c = refl
same_effect s effect.MoveToLo a b c = refl
same_effect s effect.Multiply a b c = refl
same_effect s effect.MultiplyUnsigned a b c = refl
same_effect s effect.Divide a b c = refl
same_effect s effect.DivideUnsigned a b c = refl
same_effect s effect.Sum a b c = refl
same_effect s effect.SumModulo a b c = refl
same_effect s effect.Difference a b c = refl
same_effect s effect.DifferenceModulo a b c = refl
same_effect s effect.And a b c = refl
same_effect s effect.Or a b c = refl
same_effect s effect.Xor a b c = refl
same_effect s effect.Nor a b c = refl
same_effect s effect.SetOnLess a b c = refl
same_effect s effect.SetOnLessUnsigned a b c = refl
same_effect s effect.BranchOnLess a b c = refl
same_effect s effect.BranchOnGreaterOrEqual a b c = refl
same_effect s effect.BranchOnLessAndLink a b c = refl
same_effect s effect.BranchOnGreaterOrEqualAndLink a b c = refl
same_effect s effect.JumpAndLink a b c = refl
same_effect s effect.BranchOnEqual a b c = refl
same_effect s effect.BranchOnNotEqual a b c = refl
same_effect s effect.BranchOnLessOrEqual a b c = refl
same_effect s effect.BranchOnGreater a b c = refl
same_effect s effect.LoadUpper a b c = refl
same_effect s effect.LoadByte a b c = refl
same_effect s effect.LoadHalf a b c = refl
same_effect s effect.LoadWordLeft a b c = refl
same_effect s effect.LoadWord a b c = refl
same_effect s effect.LoadByteUnsigned a b c = refl
same_effect s effect.LoadHalfUnsigned a b c = refl
same_effect s effect.LoadWordRight a b c = refl
same_effect s effect.StoreByte a b c = refl
same_effect s effect.StoreHalf a b c = refl
same_effect s effect.StoreWordLeft a b c = refl
same_effect s effect.StoreWord a b c = refl
same_effect s effect.StoreWordRight a b c = refl
same_effect s effect.LoadLinked a b c = refl
same_effect s effect.StoreConditional a b c = refl
same_effect s effect.MoveFromCop0 a b c = refl
same_effect s effect.MoveToCop0 a b c = refl
same_effect s effect.ReadTlb a b c = refl
same_effect s effect.WriteTlbIndexed a b c = refl
same_effect s effect.WriteTlbRandom a b c = refl
same_effect s effect.ProbeTlb a b c = refl
same_effect s effect.RestoreFromException a b c = refl
same_effect s effect.WaitForInterrupt a b c = refl

same_three : (s : Scene) (e : Effect) (l : List Argument) → with_three (effect_of (awake s) e) l ≡ with_three (effect_of s e) l
same_three s e [] = same_effect s e _ _ _
same_three s e (a ∷ []) = same_effect s e a _ _
same_three s e (a ∷ b ∷ []) = same_effect s e a b _
same_three s e (a ∷ b ∷ c ∷ l) = same_effect s e a b c

same_row : (s : Scene) (word : ℕ) (o : Option Row) → change_by_row (awake s) word o ≡ change_by_row s word o
same_row s word None = refl
same_row s word (Some r) =
    ap (λ l. with_three (effect_of (awake s) (table r).effect) l) (same_arguments s.processor (table r).operands (numbers_of word (Some r)))
    ∙ same_three s (table r).effect (arguments s.processor (table r).operands (numbers_of word (Some r)))

same_word : (s : Scene) → executable_word s.around.memory (with_state Running s.processor) ≡ executable_word s.around.memory s.processor
unfolding physical_at is_misaddressed
same_word s = refl

-- what a Step that fetches changes
abbrev pub fetched_change : Scene → Result Change StepFault
fetched_change s = and_then (executable_word s.around.memory s.processor) (change_in s)

same_then : (s : Scene) (w : Result ℕ StepFault) → and_then w (change_in (awake s)) ≡ and_then w (change_in s)
same_then s (Ok word) = same_row s word (row_that_fits word)
same_then s (Err f) = refl

same_fetched : (s : Scene) → fetched_change (awake s) ≡ fetched_change s
same_fetched s =
    ap (λ w. and_then w (change_in (awake s))) (same_word s)
    ∙ same_then s (executable_word s.around.memory s.processor)

-- a Step that fetches, and one that doesn't

not_interrupted : (s : Scene) → is_interrupted (lines_in s) s.processor.control ≡ false → change_of_step s ≡ fetched_change s
unfolding change_of_step
not_interrupted s h = rw h refl

interrupted : (s : Scene) → is_interrupted (lines_in s) s.processor.control ≡ true → change_of_step s ≡ Err (fault kind.Interrupt)
unfolding change_of_step
interrupted s h = rw h refl

awake_is : (s : Scene) → s.processor.state ≡ Running → s ≡ awake s
awake_is s e = λ i. scene (record s.processor { state = e i }) s.around

abbrev Fetches : Scene → Stepped → Type 0
Fetches s x = x ≡ step_of_result (awake s) (fetched_change s)

abbrev pub NoFetch : Scene → Stepped → Type 0
NoFetch s x =
    ((x.outcome ≡ Idle) ⊎ (x ≡ step_of_fault (awake s) (fault kind.Interrupt))) × (x.stored ≡ None)

awake_fetches : (s : Scene) → is_interrupted (lines_in s) s.processor.control ≡ false → Fetches s (running_step (awake s))
awake_fetches s h = ap (step_of_result (awake s)) (not_interrupted (awake s) h ∙ same_fetched s)

awake_doesnt : (s : Scene) → is_interrupted (lines_in s) s.processor.control ≡ true → NoFetch s (running_step (awake s))
awake_doesnt s h =
    let e : running_step (awake s) ≡ step_of_fault (awake s) (fault kind.Interrupt) = ap (step_of_result (awake s)) (interrupted (awake s) h) in
    (inr e, ap (λ (x : Stepped). x.stored) e)

abbrev By : Scene → Bool → Stepped → Type 0
By s true x = Fetches s x
By s false x = NoFetch s x

by_interrupt : (s : Scene) (t : Bool) → is_interrupted (lines_in s) s.processor.control ≡ t → By s (not t) (running_step (awake s))
by_interrupt s true h = awake_doesnt s h
by_interrupt s false h = awake_fetches s h

by_waiting : (s : Scene) (pending : Bool) →
    By s (not (not pending) && not (is_interrupted (lines_in s) s.processor.control))
    (if pending then running_step (awake s) else idle tick s)
by_waiting s true = by_interrupt s (is_interrupted (lines_in s) s.processor.control) refl
by_waiting s false = (inl refl, refl)

by_state : (st : ProcessorState) (s : Scene) → s.processor.state ≡ st →
    By s (not (rests_in st (is_pending (lines_in s) s.processor.control)) && not (is_interrupted (lines_in s) s.processor.control))
    (step_by_state st s)
by_state Stopped s e = (inl refl, refl)
by_state Running s e =
    subst (λ x. By s (not (is_interrupted (lines_in s) s.processor.control)) (running_step x)) (sym (awake_is s e))
    (by_interrupt s (is_interrupted (lines_in s) s.processor.control) refl)
by_state Waiting s e = by_waiting s (is_pending (lines_in s) s.processor.control)

by_fetches : (s : Scene) → By s (fetches s) (step_of s)
unfolding step_of
by_fetches s = by_state s.processor.state s refl

pub step_fetches : (s : Scene) → fetches s ≡ true → step_of s ≡ step_of_result (awake s) (fetched_change s)
step_fetches s h = subst (λ t. By s t (step_of s)) h (by_fetches s)

pub step_doesnt_fetch : (s : Scene) → fetches s ≡ false → NoFetch s (step_of s)
step_doesnt_fetch s h = subst (λ t. By s t (step_of s)) h (by_fetches s)

-- what a Step stores to

pub of_result : (s : Scene) (r : Result Change StepFault) → (step_of_result s r).stored ≡ stored_of r
of_result s (Ok change) = refl
of_result s (Err f) = refl

stored_if : (s : Scene) (t : Bool) → fetches s ≡ t → (step_of s).stored ≡ (if t then stored_of (fetched_change s) else None)
stored_if s true h = ap (λ (x : Stepped). x.stored) (step_fetches s h) ∙ of_result (awake s) (fetched_change s)
stored_if s false h = (step_doesnt_fetch s h).1

pub step_stored : (s : Scene) → (step_of s).stored ≡ (if fetches s then stored_of (fetched_change s) else None)
step_stored s = stored_if s (fetches s) refl
