use Rattle.std.proofs.Common.{◌≡◌, Bool, true, false, refl, Result, Ok, Err}
use Rattle.std.specs.Prelude.{not, ◌&&◌}
use Rattle.m161_cpu.specs.declared.fault.StepFault.{StepFault}
use Rattle.m161_cpu.specs.declared.fault.StepEnd.{StepEnd}
use Rattle.m161_cpu.specs.declared.fault.StepEnd.TheVariants as stop
use Rattle.m161_cpu.specs.Scene.{Change, Scene}
use Rattle.m161_cpu.specs.helpers.Execute.{Executes, Performs, Settles}

-- An instruction that doesn't touch whether the board is off.

not_switched : (before after : Bool) → after ≡ before → (after && not before) ≡ false
not_switched true true same = refl
not_switched false false same = refl
not_switched true false same = refl
not_switched false true same = absurd (let bad : true ≡ false = same in cc)

pub performed : (r : Result Change StepFault) (before after : Scene) →
    after.around.board.off ≡ before.around.board.off → Executes r before (Ok tt) after → Performs r before (Ok tt) after
performed (Ok c) before after same h = (h.0, h.1, not_switched before.around.board.off after.around.board.off same)
performed (Err f) before after same h = absurd h

pub not_performed : (r : Result Change StepFault) (before after : Scene) (g : StepFault) →
    Executes r before (Err g) after → Performs r before (Err (stop.Fault g)) after
not_performed (Ok c) before after g h = absurd h
not_performed (Err f) before after g h = h

-- an instruction that may write a row

settled_ok : (r : Result Change StepFault) (before after : Scene) →
    after.around.board.off ≡ before.around.board.off → Settles r before (Ok tt) after → Performs r before (Ok tt) after
settled_ok (Ok c) before after same h = (h.0, h.1, not_switched before.around.board.off after.around.board.off same)
settled_ok (Err f) before after same h = absurd h

settled_not : (r : Result Change StepFault) (before after : Scene) (s : StepEnd) →
    Settles r before (Err s) after → Performs r before (Err s) after
settled_not (Ok c) before after stop.PoweredOff h = absurd h
settled_not (Ok c) before after (stop.Conflict row other) h = h
settled_not (Ok c) before after (stop.Fault f) h = absurd h
settled_not (Err f) before after stop.PoweredOff h = absurd h
settled_not (Err f) before after (stop.Conflict row other) h = absurd h
settled_not (Err f) before after (stop.Fault g) h = h

pub settled : (r : Result Change StepFault) (before after : Scene) (executed : Result Unit StepEnd) →
    after.around.board.off ≡ before.around.board.off → Settles r before executed after → Performs r before executed after
settled r before after (Ok tt) same h = settled_ok r before after same h
settled r before after (Err s) same h = settled_not r before after s h
