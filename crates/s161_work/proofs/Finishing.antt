use Rattle.std.proofs.Common.{◌≡◌, ℕ, List, ◌++◌, subst, sym}
use Rattle.std.specs.Prelude.{IfOk, Result, Ok, Err}
use Rattle.s161_base.specs.declared.fault.Fault.{Fault}
use Rattle.s161_base.specs.declared.finished.Finished.{Finished}
use Rattle.s161_command.specs.declared.task.Shown.{Shown}
use Rattle.s161_run.specs.declared.events.RunStop.{RunStop}
use Rattle.s161_run.specs.Runs.{status_of, told_text}
use Rattle.s161_work.specs.Works.{OfRun}

-- A finished run, with what it says on standard error.

pub of_run : (shown : Shown) (IsRan : List ℕ → List ℕ → RunStop → Type 0) (text notes said : List ℕ) (stop : RunStop) (r : Result Finished Fault) →
    IsRan text notes stop → IfOk r (λ (done : Finished). done.text.items ≡ text) → IfOk r (λ (done : Finished). done.status ≡ status_of stop) →
    IfOk r (λ (done : Finished). said ≡ told_text stop shown ++ notes) → IfOk r (λ (done : Finished). OfRun shown IsRan done.text.items said done.status)
of_run shown IsRan text notes said stop (Ok done) ran same status told =
    (stop, notes, subst (λ t. IsRan t notes stop) (sym same) ran, told, status)
of_run shown IsRan text notes said stop (Err fault) ran same status told = tt
