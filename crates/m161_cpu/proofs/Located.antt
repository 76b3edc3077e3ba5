use Rattle.std.proofs.Common.{◌≡◌, ap, ℕ, Ok, Err}
use Rattle.m161_cpu.specs.declared.fault.Access.{Access}
use Rattle.m161_cpu.specs.declared.fault.StepFault.{StepFault}
use Rattle.m161_cpu.specs.declared.translation.Physical.{Physical}
use Rattle.m161_cpu.specs.Processor.{Processor}
use Rattle.m161_cpu.specs.Scene.{result_map}
use Rattle.m161_cpu.specs.Translation.{physical_at, translate}

-- A physical address, with the row that gives it and without.

pub not_located : (access : Access) (width address : ℕ) (p : Processor) (f : StepFault) →
    translate access width address p ≡ Err f → physical_at access width address p ≡ Err f
unfolding physical_at
not_located access width address p f h = ap (result_map (λ (to : Physical). to.at)) h

pub located : (access : Access) (width address : ℕ) (p : Processor) (to : Physical) →
    translate access width address p ≡ Ok to → physical_at access width address p ≡ Ok to.at
unfolding physical_at
located access width address p to h = ap (result_map (λ (x : Physical). x.at)) h
