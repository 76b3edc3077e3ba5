-- Going back to an earlier event.
use Rattle.std.proofs.Common.{◌≡◌, ◌≤◌, ℕ, length, Option, None, Some, Ok, Err, Vec, Global, arith}
use Rattle.std.proofs.lemmas.Bool.Decides.{nat_tests}
use Rattle.m161_machine.specs.declared.event.Event.{Event}
use Rattle.m161_machine.specs.History.{History}
use Rattle.m161_debug.specs.declared.jump.JumpError.{JumpError}
use Rattle.m161_debug.specs.declared.jump.JumpError.TheVariants.{NoMemory}
use Rattle.m161_debug.specs.Breakpoints.{SessionState}
use Rattle.m161_debug.specs.Jumps.{jump_fault, Jumps, JumpsTo}

-- without a fault, the events were accepted and the log has all
pub no_fault : (k : ℕ) (m : History) → jump_fault k m ≡ None → (k ≤ m.state.made) × (m.state.made ≤ length m.log)
no_fault k m none = grind (arith, nat_tests)

pub by_fault : (fault : Option JumpError) (k : ℕ) (s t : SessionState) (e : JumpError) → fault ≡ Some e → t ≡ s → Jumps fault k s (Err e) t
by_fault None k s t e is same = absurd (cc)
by_fault (Some f) k s t e is same = (cc, same)

pub no_memory : (fault : Option JumpError) (k : ℕ) (s t : SessionState) (e : JumpError) → fault ≡ None → e ≡ NoMemory → t ≡ s → Jumps fault k s (Err e) t
no_memory None k s t e is want same = (want, same)
no_memory (Some f) k s t e is want same = absurd (cc)

pub jumped : (fault : Option JumpError) (k : ℕ) (s t : SessionState) (undone : Vec Event Global) → fault ≡ None → JumpsTo k s undone.items t → Jumps fault k s (Ok undone) t
jumped None k s t undone is to = to
jumped (Some f) k s t undone is to = absurd (cc)
