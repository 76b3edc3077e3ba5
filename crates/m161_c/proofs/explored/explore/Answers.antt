use Rattle.std.proofs.Common.{◌∙◌, IfErr, subst}
use Rattle.m161_judge.specs.Judge.{bytes_of}
use Rattle.m161_machine.specs.History.{boot_state}
use Rattle.m161_c.specs.Explored.{IsRefused, criteria_of}
use Rattle.m161_c.proofs.Exploring.{refused}
use Rattle.m161_c.proofs.explored.explore.Goals as goal

pub returns-clause-err : goal.returns-clause-err
returns-clause-err c =
    let a = c.args in
    let output = bytes_of a.output in
    let told = c.tell_boot.result in
    let prepared = c.in-Ok.ensures.ok in
    refused (boot_state a.machine.now.start) a.limit (criteria_of a.keys.now a.watches.now a.never.now output) told prepared.0
    (subst (λ s. IfErr told (IsRefused s (criteria_of a.keys.now a.watches.now a.never.now output))) prepared.1
    (subst (λ ws. IfErr told (IsRefused c.in-Ok.prepared.0.state (record { watches = ws; never = a.never.now; output = output; keys = a.keys.now })))
    (c.deref.ensures.value ∙ prepared.2) c.tell_boot.ensures.err))
