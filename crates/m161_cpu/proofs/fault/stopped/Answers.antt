use Rattle.std.proofs.Common.{Result, subst}
use Rattle.m161_cpu.specs.declared.fault.StepFault.{StepFault}
use Rattle.m161_cpu.specs.helpers.Execute.{Executes}
use Rattle.m161_cpu.proofs.Performed.{performed, not_performed}
use Rattle.m161_cpu.proofs.fault.stopped.Goals as goal

pub returns-in-Ok : goal.returns-in-Ok
returns-in-Ok c = λ r before after same h.
    let P : Result Unit StepFault → Type 0 = λ executed. Executes r before executed after in
    performed r before after same (subst P c.in-Ok.is h)

pub returns-in-Err : goal.returns-in-Err
returns-in-Err c = λ r before after same h.
    let P : Result Unit StepFault → Type 0 = λ executed. Executes r before executed after in
    not_performed r before after c.in-Err.fault (subst P c.in-Err.is h)
