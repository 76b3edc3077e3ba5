use Rattle.std.specs.Prelude.{◌≡◌, Result, Ok, Err}
use Rattle.m161_bus.specs.declared.console.DoneError.{DoneError}
use Rattle.m161_bus.specs.declared.console.DoneError.TheVariants.{NoMemory}

-- The result of a call that may be refused, and the state after it.

-- success and the new state; or the refusal and the old state
abbrev pub LeavesUnlessRefused : {S E : Type 0} → Result S E → S → Result (Unit {0}) E → S → Type 0
LeavesUnlessRefused (Ok after) old (Ok done) new = new ≡ after
LeavesUnlessRefused (Ok after) old (Err e) new = ⊥
LeavesUnlessRefused (Err refusal) old (Ok done) new = ⊥
LeavesUnlessRefused (Err refusal) old (Err e) new = (e ≡ refusal) × (new ≡ old)

-- the same; but if there is no refusal, memory may be refused, and the old state stays
abbrev pub LeavesUnlessNoMemory :
    {S : Type 0} → Result S DoneError → S → Result (Unit {0}) DoneError → S → Type 0
LeavesUnlessNoMemory (Ok after) old (Ok done) new = new ≡ after
LeavesUnlessNoMemory (Ok after) old (Err e) new = (e ≡ NoMemory) × (new ≡ old)
LeavesUnlessNoMemory (Err refusal) old (Ok done) new = ⊥
LeavesUnlessNoMemory (Err refusal) old (Err e) new = (e ≡ refusal) × (new ≡ old)
