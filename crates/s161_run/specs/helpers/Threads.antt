use Rattle.std.specs.Prelude.{◌≡◌, ℕ, ◌+◌, min, Bool, List, None, length, replicate}
use Rattle.m161_machine.specs.History.{History, boot_state}
use Rattle.m161_threads.specs.Runs.{Interleaves, bad_call}
use Rattle.s161_base.specs.declared.fault.Fault.{Fault}
use Rattle.s161_base.specs.declared.fault.Fault.TheVariants.{Memory, Threads}
use Rattle.s161_run.specs.Threads.{IsCause}

-- The run in threads of a machine that is booted, with the same quota for each processor.

abbrev pub number_of : History → ℕ
number_of m = m.start.conf.processors

-- its log has the last entries for which there is room, and its base is the state at boot where it has
-- all
pub record KeepsLast (m : History) : Type 0 where
  pub made_is : m.state.made ≡ m.base.made + length m.log
  pub last : length m.log ≡ min m.start.conf.log m.state.made
  pub boot : m.base.made ≡ 0 → m.base ≡ boot_state m.start

-- it begins and ends
pub record RunsBooted
    (m : History) (quota burst : ℕ) (made : List ℕ) (off : Bool) (n : History) : Type 0 where
  pub begins : bad_call (number_of m) (number_of m) burst ≡ None
  pub interleaves : Interleaves m (replicate (number_of m) quota) made off n

-- it doesn't begin, or has no end
abbrev pub FailsBooted : History → ℕ → Fault → Type 0
FailsBooted m burst (Threads cause) = IsCause (bad_call (number_of m) (number_of m) burst) cause
FailsBooted m burst Memory = Unit {0}
FailsBooted m burst _ = ⊥
