use Rattle.std.proofs.Common.{◌∙◌, refl}
use Rattle.m161_judge.specs.Judge.{bytes_of}
use Rattle.m161_machine.specs.History.{boot_state}
use Rattle.m161_c.specs.Explored.{criteria_of}
use Rattle.m161_c.proofs.Beginning.{not_begun, same_criteria}
use Rattle.m161_c.proofs.begun.begin.Goals as goal

pub returns-clause-err : goal.returns-clause-err
returns-clause-err c =
    let a = c.args in
    let g = criteria_of a.keys.now a.watches.now a.never.now (bytes_of a.output) in
    let prepared = c.in-Ok.ensures.ok in
    not_begun (boot_state a.machine.now.start) c.in-Ok.prepared.0.state a.limit g _ c.in-Err-begin_boot.answer prepared.0 prepared.1
    (same_criteria g _ _ _ _ (c.deref.ensures.value ∙ prepared.2) refl refl refl) c.in-Err-begin_boot.ensures.err
