use Rattle.std.proofs.Common.{◌≡◌, ◌⊎◌, inl, inr, refl, ℕ, ◌+◌, Bool, true, false, length, Option, None, Some, Result, Ok, Err}
use Rattle.std.specs.Prelude.{IfOk, nat_le, if◌then◌else◌, is_some}
use Rattle.m161_isa.specs.declared.effect.Effect.{Effect}
use Rattle.m161_isa.specs.declared.effect.Effect.TheVariants as effect
use Rattle.m161_cpu.specs.Links.{End}
use Rattle.m161_cpu.specs.Scene.{Change, Scene, and_then, result_map}
use Rattle.m161_cpu.specs.Effect.{Argument, effect_of, is_linked, store_physical_word, store_word, unless_overflow, write}
use Rattle.m161_trace.specs.helpers.Far.{is_far}

-- What an effect changes of rows and of the board.

-- unless it is a far one, nothing; nor if it stores to RAM
pub record NearChange (far : Bool) (c : Change) : Type 0 where
  pub near : (far ≡ false) ⊎ (is_some c.store ≡ true) → (c.row ≡ None) × (c.board ≡ None)
  -- never both
  pub apart : (c.row ≡ None) ⊎ (c.board ≡ None)

-- a change of neither
neither : (far : Bool) (c : Change) → c.row ≡ None → c.board ≡ None → NearChange far c
neither far c r b = record { near = λ h. (r, b); apart = inl r }

-- one of either, which stores nothing to RAM
no_store : {X : Type 0} → (true ≡ false) ⊎ (false ≡ true) → X
no_store (inl h) = absurd (cc)
no_store (inr h) = absurd (cc)

in_slot : {E : Type 0} (t far : Bool) (e : E) (c : Change) → c.row ≡ None → c.board ≡ None → IfOk (if t then Err e else Ok c) (NearChange far)
in_slot true far e c r b = tt
in_slot false far e c r b = neither far c r b

of_sum : (far : Bool) (d : ℕ) (o : Option ℕ) → IfOk (result_map (write d) (unless_overflow o)) (NearChange far)
of_sum far d None = tt
of_sum far d (Some sum) = neither far (write d sum) refl refl

mapped : {E : Type 0} (far : Bool) (r : Result ℕ E) (f : ℕ → Change) → ((at : ℕ) → NearChange far (f at)) → IfOk (result_map f r) (NearChange far)
mapped far (Ok at) f h = h at
mapped far (Err e) f h = tt

-- a load or a store of the board
board_moved : {X E : Type 0} (r : Result X E) (f : X → Change) → ((x : X) → NearChange true (f x)) → IfOk (result_map f r) (NearChange true)
board_moved (Ok x) f h = h x
board_moved (Err e) f h = tt

linked_if : (t far : Bool) (r word at : ℕ) → NearChange far (if t then record (store_word word at) { register = Some (r, 1); link = End } else record (write r 0) { link = End })
linked_if true far r word at = neither far (record (store_word word at) { register = Some (r, 1); link = End }) refl refl
linked_if false far r word at = neither far (record (write r 0) { link = End }) refl refl

written_if : {E : Type 0} (t : Bool) (c : Change) (r : Result Change E) → c.row ≡ None → c.board ≡ None → IfOk r (NearChange true) → IfOk (if t then Ok c else r) (NearChange true)
written_if true c r rows board h = neither true c rows board
written_if false c r rows board h = h

written_at : (s : Scene) (word : ℕ) (r : Result ℕ _) → IfOk (and_then r (store_physical_word s word)) (NearChange true)
written_at s word (Ok at) =
    written_if (nat_le (at + 4) (length s.around.memory)) (store_word word at) _ refl refl (board_moved _ _ (λ b. record { near = λ h. no_store h; apart = inl refl }))
written_at s word (Err e) = tt

pub near_effect : (s : Scene) (e : Effect) (a b c : Argument) → IfOk (effect_of s e a b c) (NearChange (is_far e))
near_effect s effect.ShiftLeft a b c = neither _ _ refl refl
near_effect s effect.ShiftRight a b c = neither _ _ refl refl
near_effect s effect.ShiftRightArithmetic a b c = neither _ _ refl refl
near_effect s effect.Jump a b c = in_slot s.processor.slot _ _ _ refl refl
near_effect s effect.JumpAndLinkRegister a b c = in_slot s.processor.slot _ _ _ refl refl
near_effect s effect.SystemCall a b c = tt
near_effect s effect.Breakpoint a b c = tt
near_effect s effect.Synchronize a b c = neither _ _ refl refl
near_effect s effect.MoveFromHi a b c = neither _ _ refl refl
near_effect s effect.MoveToHi a b c = neither _ _ refl refl
near_effect s effect.MoveFromLo a b c = neither _ _ refl refl
near_effect s effect.MoveToLo a b c = neither _ _ refl refl
near_effect s effect.Multiply a b c = neither _ _ refl refl
near_effect s effect.MultiplyUnsigned a b c = neither _ _ refl refl
near_effect s effect.Divide a b c = neither _ _ refl refl
near_effect s effect.DivideUnsigned a b c = neither _ _ refl refl
near_effect s effect.Sum a b c = of_sum _ a.number _
near_effect s effect.SumModulo a b c = neither _ _ refl refl
near_effect s effect.Difference a b c = of_sum _ a.number _
near_effect s effect.DifferenceModulo a b c = neither _ _ refl refl
near_effect s effect.And a b c = neither _ _ refl refl
near_effect s effect.Or a b c = neither _ _ refl refl
near_effect s effect.Xor a b c = neither _ _ refl refl
near_effect s effect.Nor a b c = neither _ _ refl refl
near_effect s effect.SetOnLess a b c = neither _ _ refl refl
near_effect s effect.SetOnLessUnsigned a b c = neither _ _ refl refl
near_effect s effect.BranchOnLess a b c = in_slot s.processor.slot _ _ _ refl refl
near_effect s effect.BranchOnGreaterOrEqual a b c = in_slot s.processor.slot _ _ _ refl refl
near_effect s effect.BranchOnLessAndLink a b c = in_slot s.processor.slot _ _ _ refl refl
near_effect s effect.BranchOnGreaterOrEqualAndLink a b c = in_slot s.processor.slot _ _ _ refl refl
near_effect s effect.JumpAndLink a b c = in_slot s.processor.slot _ _ _ refl refl
near_effect s effect.BranchOnEqual a b c = in_slot s.processor.slot _ _ _ refl refl
near_effect s effect.BranchOnNotEqual a b c = in_slot s.processor.slot _ _ _ refl refl
near_effect s effect.BranchOnLessOrEqual a b c = in_slot s.processor.slot _ _ _ refl refl
near_effect s effect.BranchOnGreater a b c = in_slot s.processor.slot _ _ _ refl refl
near_effect s effect.LoadUpper a b c = neither _ _ refl refl
near_effect s effect.LoadByte a b c = mapped _ _ _ (λ at. neither _ _ refl refl)
near_effect s effect.LoadHalf a b c = mapped _ _ _ (λ at. neither _ _ refl refl)
near_effect s effect.LoadWordLeft a b c = mapped _ _ _ (λ at. neither _ _ refl refl)
near_effect s effect.LoadWord a b c = board_moved _ _ (λ read. record { near = λ h. no_store h; apart = inl refl })
near_effect s effect.LoadByteUnsigned a b c = mapped _ _ _ (λ at. neither _ _ refl refl)
near_effect s effect.LoadHalfUnsigned a b c = mapped _ _ _ (λ at. neither _ _ refl refl)
near_effect s effect.LoadWordRight a b c = mapped _ _ _ (λ at. neither _ _ refl refl)
near_effect s effect.StoreByte a b c = mapped _ _ _ (λ at. neither _ _ refl refl)
near_effect s effect.StoreHalf a b c = mapped _ _ _ (λ at. neither _ _ refl refl)
near_effect s effect.StoreWordLeft a b c = mapped _ _ _ (λ at. neither _ _ refl refl)
near_effect s effect.StoreWord a b c = written_at s a.value _
near_effect s effect.StoreWordRight a b c = mapped _ _ _ (λ at. neither _ _ refl refl)
near_effect s effect.LoadLinked a b c = mapped _ _ _ (λ at. neither _ _ refl refl)
near_effect s effect.StoreConditional a b c = mapped _ _ _ (λ at. linked_if (is_linked s at) _ a.number a.value at)
near_effect s effect.MoveFromCop0 a b c = neither _ _ refl refl
near_effect s effect.MoveToCop0 a b c = neither _ _ refl refl
near_effect s effect.ReadTlb a b c = neither _ _ refl refl
near_effect s effect.WriteTlbIndexed a b c = record { near = λ h. no_store h; apart = inr refl }
near_effect s effect.WriteTlbRandom a b c = record { near = λ h. no_store h; apart = inr refl }
near_effect s effect.ProbeTlb a b c = neither _ _ refl refl
near_effect s effect.RestoreFromException a b c = neither _ _ refl refl
near_effect s effect.WaitForInterrupt a b c = neither _ _ refl refl
