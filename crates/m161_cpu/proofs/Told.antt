use Rattle.std.proofs.Common.{◌≡◌, ◌∙◌, refl, ap, sym, subst, ℕ, Bool, true, false, List, [], ◌∷◌, Option, None, Some, Result, Ok, Err}
use Rattle.std.specs.Prelude.{◌+ℤ◌, ◌-ℤ◌, if◌then◌else◌}
use Rattle.m161_isa.specs.declared.effect.Effect.{Effect}
use Rattle.m161_isa.specs.declared.effect.Effect.TheVariants as effect
use Rattle.m161_isa.specs.declared.table.Row.{Row}
use Rattle.m161_isa.specs.Table.{table, row_that_fits, numbers_of}
use Rattle.m161_alu.specs.Word.{signed, word_of_signed}
use Rattle.m161_cop0.specs.Control.{read_of}
use Rattle.m161_cpu.specs.declared.fault.Access.TheVariants.{Fetch, Load, Store}
use Rattle.m161_cpu.specs.declared.fault.StepFault.{StepFault}
use Rattle.m161_cpu.specs.declared.fault.FaultKind.TheVariants as kind
use Rattle.m161_cpu.specs.declared.translation.Physical.{Physical}
use Rattle.m161_cpu.specs.declared.uses.Via.{Via}
use Rattle.m161_cpu.specs.Processor.{Processor}
use Rattle.m161_cpu.specs.Fault.{fault}
use Rattle.m161_cpu.specs.Scene.{Scene, Change, and_then, result_map}
use Rattle.m161_cpu.specs.Effect.{Argument, arguments, effect_of, effective_address, unless_overflow, with_three, write}
use Rattle.m161_cpu.specs.Step.{Stepped, change_by_row, change_in, executable_word, step_of, step_of_fault, step_of_result}
use Rattle.m161_cpu.specs.Uses.{Reference, fetch_of, fetches, reference_by_row, reference_in, reference_of, translated, uses_of, via_in, via_of, via_reference, via_row}
use Rattle.m161_cpu.specs.UsesLaw.{AccessesBy, ExecutesBy, FetchesBy, Refers, RefersBy, RefersToNothing, StepUses, UsesBy, address_of, awake, word_from}
use Rattle.m161_cpu.specs.helpers.Uses.{stored_of, uses_of_word}
use Rattle.m161_cpu.proofs.Awake.{of_result, step_doesnt_fetch, step_fetches}
use Rattle.m161_cpu.proofs.Located.{not_located, located}
use Rattle.m161_cpu.proofs.Used.{fetched_uses, no_word_at_pc, not_fetched_uses, uses_if}

-- The laws of what a Step uses.

-- the reference of an effect is the only one

nothing_in_slot : (t : Bool) (c : Change) → c.store ≡ None → c.board ≡ None → RefersToNothing (if t then Err (fault kind.ReservedInstruction) else Ok c)
nothing_in_slot true c store board = refl
nothing_in_slot false c store board = (store, board)

nothing_of_sum : (d : ℕ) (o : Option ℕ) → RefersToNothing (result_map (write d) (unless_overflow o))
nothing_of_sum d None = refl
nothing_of_sum d (Some sum) = (refl, refl)

faults : (s : Scene) (r : Reference) (f : StepFault) → translated s.processor r ≡ Err f → address_of s.processor r ≡ Err f
faults s r f h = not_located r.access r.width r.address s.processor f h

pub refers : (e : Effect) (a b c : Argument) → Refers e a b c (reference_of e a b c)
refers effect.ShiftLeft a b c = λ s. (λ other lines. refl, (refl, refl))
refers effect.ShiftRight a b c = λ s. (λ other lines. refl, (refl, refl))
refers effect.ShiftRightArithmetic a b c = λ s. (λ other lines. refl, (refl, refl))
refers effect.Jump a b c = λ s. (λ other lines. refl, nothing_in_slot s.processor.slot _ refl refl)
refers effect.JumpAndLinkRegister a b c = λ s. (λ other lines. refl, nothing_in_slot s.processor.slot _ refl refl)
refers effect.SystemCall a b c = λ s. (λ other lines. refl, refl)
refers effect.Breakpoint a b c = λ s. (λ other lines. refl, refl)
refers effect.Synchronize a b c = λ s. (λ other lines. refl, (refl, refl))
refers effect.MoveFromHi a b c = λ s. (λ other lines. refl, (refl, refl))
refers effect.MoveToHi a b c = λ s. (λ other lines. refl, (refl, refl))
refers effect.MoveFromLo a b c = λ s. (λ other lines. refl, (refl, refl))
refers effect.MoveToLo a b c = λ s. (λ other lines. refl, (refl, refl))
refers effect.Multiply a b c = λ s. (λ other lines. refl, (refl, refl))
refers effect.MultiplyUnsigned a b c = λ s. (λ other lines. refl, (refl, refl))
refers effect.Divide a b c = λ s. (λ other lines. refl, (refl, refl))
refers effect.DivideUnsigned a b c = λ s. (λ other lines. refl, (refl, refl))
refers effect.Sum a b c = λ s. (λ other lines. refl, nothing_of_sum a.number (word_of_signed (signed b.value +ℤ signed c.value)))
refers effect.SumModulo a b c = λ s. (λ other lines. refl, (refl, refl))
refers effect.Difference a b c = λ s. (λ other lines. refl, nothing_of_sum a.number (word_of_signed (signed b.value -ℤ signed c.value)))
refers effect.DifferenceModulo a b c = λ s. (λ other lines. refl, (refl, refl))
refers effect.And a b c = λ s. (λ other lines. refl, (refl, refl))
refers effect.Or a b c = λ s. (λ other lines. refl, (refl, refl))
refers effect.Xor a b c = λ s. (λ other lines. refl, (refl, refl))
refers effect.Nor a b c = λ s. (λ other lines. refl, (refl, refl))
refers effect.SetOnLess a b c = λ s. (λ other lines. refl, (refl, refl))
refers effect.SetOnLessUnsigned a b c = λ s. (λ other lines. refl, (refl, refl))
refers effect.BranchOnLess a b c = λ s. (λ other lines. refl, nothing_in_slot s.processor.slot _ refl refl)
refers effect.BranchOnGreaterOrEqual a b c = λ s. (λ other lines. refl, nothing_in_slot s.processor.slot _ refl refl)
refers effect.BranchOnLessAndLink a b c = λ s. (λ other lines. refl, nothing_in_slot s.processor.slot _ refl refl)
refers effect.BranchOnGreaterOrEqualAndLink a b c = λ s. (λ other lines. refl, nothing_in_slot s.processor.slot _ refl refl)
refers effect.JumpAndLink a b c = λ s. (λ other lines. refl, nothing_in_slot s.processor.slot _ refl refl)
refers effect.BranchOnEqual a b c = λ s. (λ other lines. refl, nothing_in_slot s.processor.slot _ refl refl)
refers effect.BranchOnNotEqual a b c = λ s. (λ other lines. refl, nothing_in_slot s.processor.slot _ refl refl)
refers effect.BranchOnLessOrEqual a b c = λ s. (λ other lines. refl, nothing_in_slot s.processor.slot _ refl refl)
refers effect.BranchOnGreater a b c = λ s. (λ other lines. refl, nothing_in_slot s.processor.slot _ refl refl)
refers effect.LoadUpper a b c = λ s. (λ other lines. refl, (refl, refl))
refers effect.LoadByte a b c = λ s. (
  λ f h. rw (faults s (record { access = Load; width = 1; address = effective_address b c }) f h) refl,
  λ p same. rw same refl,
)
refers effect.LoadHalf a b c = λ s. (
  λ f h. rw (faults s (record { access = Load; width = 2; address = effective_address b c }) f h) refl,
  λ p same. rw same refl,
)
refers effect.LoadWordLeft a b c = λ s. (
  λ f h. rw (faults s (record { access = Load; width = 1; address = effective_address b c }) f h) refl,
  λ p same. rw same refl,
)
refers effect.LoadWord a b c = λ s. (
  λ f h. rw (faults s (record { access = Load; width = 4; address = effective_address b c }) f h) refl,
  λ p same. rw same refl,
)
refers effect.LoadByteUnsigned a b c = λ s. (
  λ f h. rw (faults s (record { access = Load; width = 1; address = effective_address b c }) f h) refl,
  λ p same. rw same refl,
)
refers effect.LoadHalfUnsigned a b c = λ s. (
  λ f h. rw (faults s (record { access = Load; width = 2; address = effective_address b c }) f h) refl,
  λ p same. rw same refl,
)
refers effect.LoadWordRight a b c = λ s. (
  λ f h. rw (faults s (record { access = Load; width = 1; address = effective_address b c }) f h) refl,
  λ p same. rw same refl,
)
refers effect.StoreByte a b c = λ s. (
  λ f h. rw (faults s (record { access = Store; width = 1; address = effective_address b c }) f h) refl,
  λ p same. rw same refl,
)
refers effect.StoreHalf a b c = λ s. (
  λ f h. rw (faults s (record { access = Store; width = 2; address = effective_address b c }) f h) refl,
  λ p same. rw same refl,
)
refers effect.StoreWordLeft a b c = λ s. (
  λ f h. rw (faults s (record { access = Store; width = 1; address = effective_address b c }) f h) refl,
  λ p same. rw same refl,
)
refers effect.StoreWord a b c = λ s. (
  λ f h. rw (faults s (record { access = Store; width = 4; address = effective_address b c }) f h) refl,
  λ p same. rw same refl,
)
refers effect.StoreWordRight a b c = λ s. (
  λ f h. rw (faults s (record { access = Store; width = 1; address = effective_address b c }) f h) refl,
  λ p same. rw same refl,
)
refers effect.LoadLinked a b c = λ s. (
  λ f h. rw (faults s (record { access = Load; width = 4; address = effective_address b c }) f h) refl,
  λ p same. rw same refl,
)
refers effect.StoreConditional a b c = λ s. (
  λ f h. rw (faults s (record { access = Store; width = 4; address = effective_address b c }) f h) refl,
  λ p same. rw same refl,
)
refers effect.MoveFromCop0 a b c = λ s. (λ other lines. ap (λ l. Ok (write a.number (read_of b.number l s.processor.control))) lines, (refl, refl))
refers effect.MoveToCop0 a b c = λ s. (λ other lines. refl, (refl, refl))
refers effect.ReadTlb a b c = λ s. (λ other lines. refl, (refl, refl))
refers effect.WriteTlbIndexed a b c = λ s. (λ other lines. refl, (refl, refl))
refers effect.WriteTlbRandom a b c = λ s. (λ other lines. refl, (refl, refl))
refers effect.ProbeTlb a b c = λ s. (λ other lines. refl, (refl, refl))
refers effect.RestoreFromException a b c = λ s. (λ other lines. refl, (refl, refl))
refers effect.WaitForInterrupt a b c = λ s. (λ other lines. refl, (refl, refl))

-- an instruction faults where the translation of its reference does

effect_faults : (s : Scene) (e : Effect) (a b c : Argument) (r : Reference) (f : StepFault) → reference_of e a b c ≡ Some r → translated s.processor r ≡ Err f → effect_of s e a b c ≡ Err f
effect_faults s e a b c r f is h =
    let law : Refers e a b c (Some r) = subst (Refers e a b c) is (refers e a b c) in
    (law s).0 f h

three_fault : (s : Scene) (e : Effect) (l : List Argument) (r : Reference) (f : StepFault) → with_three (reference_of e) l ≡ Some r → translated s.processor r ≡ Err f → with_three (effect_of s e) l ≡ Err f
three_fault s e [] r f is h = effect_faults s e _ _ _ r f is h
three_fault s e (a ∷ []) r f is h = effect_faults s e a _ _ r f is h
three_fault s e (a ∷ b ∷ []) r f is h = effect_faults s e a b _ r f is h
three_fault s e (a ∷ b ∷ c ∷ l) r f is h = effect_faults s e a b c r f is h

row_faults : (s : Scene) (word : ℕ) (o : Option Row) (r : Reference) (f : StepFault) → reference_by_row s.processor word o ≡ Some r → translated s.processor r ≡ Err f → change_by_row s word o ≡ Err f
row_faults s word None r f is h = absurd (let bad : ◌≡◌ {A = Option Reference} None (Some r) = is in cc)
row_faults s word (Some row) r f is h =
    three_fault s (table row).effect (arguments s.processor (table row).operands (numbers_of word (Some row))) r f is h

-- what is used, by the word that was fetched

same_step : (s : Scene) (w : Result ℕ StepFault) → fetches s ≡ true → executable_word s.around.memory s.processor ≡ w → step_of s ≡ step_of_result (awake s) (and_then w (change_in s))
same_step s w h is = step_fetches s h ∙ ap (λ x. step_of_result (awake s) (and_then x (change_in s))) is

executed : (s : Scene) (fetch : Option Via) (word : ℕ) → fetches s ≡ true → fetch ≡ via_of s.processor (fetch_of s.processor) → executable_word s.around.memory s.processor ≡ Ok word →
    uses_of s ≡ uses_of_word s fetch word
executed s fetch word h v is = uses_if s true h ∙ sym (fetched_uses s word fetch v is)

does : (s : Scene) (fetch access : Option Via) (word : ℕ) → fetches s ≡ true → fetch ≡ via_of s.processor (fetch_of s.processor) → executable_word s.around.memory s.processor ≡ Ok word →
    via_reference s.processor (reference_in s.processor word) ≡ access →
    uses_of s ≡ record { fetch = fetch; access = access; stored = (step_of s).stored }
unfolding uses_of_word
does s fetch access word h v is a =
    let stored : stored_of (change_in s word) ≡ (step_of s).stored = sym (ap (λ (x : Stepped). x.stored) (same_step s (Ok word) h is) ∙ of_result (awake s) (change_in s word)) in
    executed s fetch word h v is ∙ (λ i. record { fetch = fetch; access = a i; stored = stored i })

via_is : (p : Processor) (r : Reference) (x : Result Physical StepFault) → translated p r ≡ x → via_of p r ≡ via_in p r.address x
unfolding via_of
via_is p r x h = ap (via_in p r.address) h

by_translation : (s : Scene) (fetch : Option Via) (word : ℕ) (r : Reference) (x : Result Physical StepFault) → fetches s ≡ true → fetch ≡ via_of s.processor (fetch_of s.processor) → executable_word s.around.memory s.processor ≡ Ok word →
    reference_in s.processor word ≡ Some r → translated s.processor r ≡ x → AccessesBy s fetch word r x
by_translation s fetch word r (Err f) h v is at t =
    let change : change_in s word ≡ Err f = row_faults s word (row_that_fits word) r f at t in
    let step : step_of s ≡ step_of_fault (awake s) f = same_step s (Ok word) h is ∙ ap (step_of_result (awake s)) change in
    let uses_is : uses_of s ≡ record { fetch = fetch; access = None; stored = (step_of s).stored } = does s fetch None word h v is (ap (via_reference s.processor) at ∙ via_is s.processor r (Err f) t) in
    (step, uses_is ∙ ap (λ (x : Stepped). record { fetch = fetch; access = None; stored = x.stored }) step)
by_translation s fetch word r (Ok to) h v is at t = (
  same_step s (Ok word) h is,
  does s fetch (via_row s.processor r.address to.row) word h v is (ap (via_reference s.processor) at ∙ via_is s.processor r (Ok to) t),
)

by_reference : (s : Scene) (fetch : Option Via) (word : ℕ) (o : Option Reference) → fetches s ≡ true → fetch ≡ via_of s.processor (fetch_of s.processor) → executable_word s.around.memory s.processor ≡ Ok word →
    reference_in s.processor word ≡ o → RefersBy s fetch word o
by_reference s fetch word None h v is at = (same_step s (Ok word) h is, does s fetch None word h v is (ap (via_reference s.processor) at))
by_reference s fetch word (Some r) h v is at = by_translation s fetch word r (translated s.processor r) h v is at refl

by_word : (s : Scene) (fetch : Option Via) (w : Result ℕ StepFault) → fetches s ≡ true → fetch ≡ via_of s.processor (fetch_of s.processor) → executable_word s.around.memory s.processor ≡ w → ExecutesBy s fetch w
by_word s fetch (Err f) h v is = (same_step s (Err f) h is, uses_if s true h ∙ sym (not_fetched_uses s f fetch v is))
by_word s fetch (Ok word) h v is = by_reference s fetch word (reference_in s.processor word) h v is refl

-- the word at the fetch's physical address
word_there : (memory : List ℕ) (p : Processor) (to : Physical) → translated p (fetch_of p) ≡ Ok to → executable_word memory p ≡ word_from memory to.at p
word_there memory p to t = rw (located Fetch 4 p.pc p to t) refl

by_fetch : (s : Scene) (x : Result Physical StepFault) → fetches s ≡ true → translated s.processor (fetch_of s.processor) ≡ x → FetchesBy s x
by_fetch s (Err f) h t =
    by_word s None (Err f) h (sym (via_is s.processor (fetch_of s.processor) (Err f) t))
    (no_word_at_pc s.around.memory s.processor f (not_located Fetch 4 s.processor.pc s.processor f t))
by_fetch s (Ok to) h t =
    by_word s (via_row s.processor s.processor.pc to.row) (word_from s.around.memory to.at s.processor) h (sym (via_is s.processor (fetch_of s.processor) (Ok to) t))
    (word_there s.around.memory s.processor to t)

by_fetches : (s : Scene) (t : Bool) → fetches s ≡ t → UsesBy s t
by_fetches s false h = ((step_doesnt_fetch s h).0, uses_if s false h)
by_fetches s true h = by_fetch s (translated s.processor (fetch_of s.processor)) h refl

pub step_uses : StepUses
step_uses s = by_fetches s (fetches s) refl
