use Rattle.std.proofs.Common.{◌≡◌, refl, ap, ◌/◌, ◌^◌, Option, None, Some, Ok}
use Rattle.std.specs.Prelude.{option_map, slice_get}
use Rattle.m161_isa.specs.declared.effect.Effect.{Effect}
use Rattle.m161_isa.specs.declared.effect.Effect.TheVariants as effect
use Rattle.m161_tlb.specs.declared.row.Row.{Row as TlbRow}
use Rattle.m161_tlb.specs.Rows.{find_row}
use Rattle.m161_cop0.specs.Control.{Control, identifier_of, index_row_of, is_user}
use Rattle.m161_bus.specs.Board.{interrupt_lines}
use Rattle.m161_cpu.specs.Links.{End}
use Rattle.m161_cpu.specs.Scene.{Scene, Change, result_map, scene}
use Rattle.m161_cpu.specs.Translation.{is_misaddressed, physical_at}
use Rattle.m161_cpu.specs.Effect.{Argument, effect_of, row_read, write, write_control}
use Rattle.m161_alike.specs.declared.reads.Reads.{Reads}
use Rattle.m161_alike.specs.Reads.{AreWithin, reads_of}
use Rattle.m161_alike.specs.View.{control_view, processor_view}
use Rattle.m161_alike.proofs.Cop0.{again, probed, read, returned, row_put, written}

-- An effect that doesn't read time does the same whatever time it is, but for time itself.

-- a scene whose processor has no other time than is known
abbrev pub timeless : Reads → Scene → Scene
timeless k s = scene (processor_view k s.processor) s.around

abbrev pub timeless_change : Reads → Change → Change
timeless_change k change = record change { control = option_map (control_view k) change.control }

row_found : (k : Reads) (c : Control) (row : Option TlbRow) → control_view k (row_read (control_view k c) row) ≡ control_view k (row_read c row)
row_found k c None = again k c
row_found k c (Some row) = row_put k _ _ c

pub effect_timeless : (k : Reads) (s : Scene) (e : Effect) (a b c : Argument) → AreWithin (reads_of e a b c) k →
    result_map (timeless_change k) (effect_of (timeless k s) e a b c) ≡ result_map (timeless_change k) (effect_of s e a b c)
unfolding physical_at is_misaddressed is_user
effect_timeless k s effect.ShiftLeft a b c h = refl
effect_timeless k s effect.ShiftRight a b c h = refl
effect_timeless k s effect.ShiftRightArithmetic a b c h = refl
effect_timeless k s effect.Jump a b c h = refl
effect_timeless k s effect.JumpAndLinkRegister a b c h = refl
effect_timeless k s effect.SystemCall a b c h = refl
effect_timeless k s effect.Breakpoint a b c h = refl
effect_timeless k s effect.Synchronize a b c h = refl
effect_timeless k s effect.MoveFromHi a b c h = refl
effect_timeless k s effect.MoveToHi a b c h = refl
effect_timeless k s effect.MoveFromLo a b c h = refl
effect_timeless k s effect.MoveToLo a b c h = refl
effect_timeless k s effect.Multiply a b c h = refl
effect_timeless k s effect.MultiplyUnsigned a b c h = refl
effect_timeless k s effect.Divide a b c h = refl
effect_timeless k s effect.DivideUnsigned a b c h = refl
effect_timeless k s effect.Sum a b c h = refl
effect_timeless k s effect.SumModulo a b c h = refl
effect_timeless k s effect.Difference a b c h = refl
effect_timeless k s effect.DifferenceModulo a b c h = refl
effect_timeless k s effect.And a b c h = refl
effect_timeless k s effect.Or a b c h = refl
effect_timeless k s effect.Xor a b c h = refl
effect_timeless k s effect.Nor a b c h = refl
effect_timeless k s effect.SetOnLess a b c h = refl
effect_timeless k s effect.SetOnLessUnsigned a b c h = refl
effect_timeless k s effect.BranchOnLess a b c h = refl
effect_timeless k s effect.BranchOnGreaterOrEqual a b c h = refl
effect_timeless k s effect.BranchOnLessAndLink a b c h = refl
effect_timeless k s effect.BranchOnGreaterOrEqualAndLink a b c h = refl
effect_timeless k s effect.JumpAndLink a b c h = refl
effect_timeless k s effect.BranchOnEqual a b c h = refl
effect_timeless k s effect.BranchOnNotEqual a b c h = refl
effect_timeless k s effect.BranchOnLessOrEqual a b c h = refl
effect_timeless k s effect.BranchOnGreater a b c h = refl
effect_timeless k s effect.LoadUpper a b c h = refl
effect_timeless k s effect.LoadByte a b c h = refl
effect_timeless k s effect.LoadHalf a b c h = refl
effect_timeless k s effect.LoadWordLeft a b c h = refl
effect_timeless k s effect.LoadWord a b c h = refl
effect_timeless k s effect.LoadByteUnsigned a b c h = refl
effect_timeless k s effect.LoadHalfUnsigned a b c h = refl
effect_timeless k s effect.LoadWordRight a b c h = refl
effect_timeless k s effect.StoreByte a b c h = refl
effect_timeless k s effect.StoreHalf a b c h = refl
effect_timeless k s effect.StoreWordLeft a b c h = refl
effect_timeless k s effect.StoreWord a b c h = refl
effect_timeless k s effect.StoreWordRight a b c h = refl
effect_timeless k s effect.LoadLinked a b c h = refl
effect_timeless k s effect.StoreConditional a b c h = refl
effect_timeless k s effect.MoveFromCop0 a b c h = ap (λ w. Ok (write a.number w)) (read k b.number (interrupt_lines s.around.number s.around.board) s.processor.control h)
effect_timeless k s effect.MoveToCop0 a b c h = ap (λ d. Ok (write_control d)) (written k b.number a.value s.processor.control)
effect_timeless k s effect.ReadTlb a b c h = ap (λ d. Ok (write_control d)) (row_found k s.processor.control (slice_get s.processor.rows (index_row_of s.processor.control)))
effect_timeless k s effect.WriteTlbIndexed a b c h = refl
effect_timeless k s effect.WriteTlbRandom a b c h = rw (h.0 refl) refl
effect_timeless k s effect.ProbeTlb a b c h = ap (λ d. Ok (write_control d)) (probed k (find_row s.processor.rows (s.processor.control.entry_hi / 2 ^ 12) (identifier_of s.processor.control)) s.processor.control)
effect_timeless k s effect.RestoreFromException a b c h = ap (λ d. Ok (record (write_control d) { link = End })) (returned k s.processor.control)
effect_timeless k s effect.WaitForInterrupt a b c h = refl
