use Rattle.std.proofs.Common.{◌∙◌, ap}
use Rattle.m161_machine.specs.Restore.{with_memory}
use Rattle.m161_alike.specs.RestoredMemory.{with_changes}
use Rattle.m161_alike.proofs.RestoringMemory.{memory_is}
use Rattle.m161_alike.proofs.restored_memory.read_memory.Goals as goal

pub returns-clause-view : goal.returns-clause-view
returns-clause-view g c = λ m h.
    let state = c.args.core.now.state in
    c.make_changes.ensures.state
    ∙ ap (λ s. with_memory (with_changes c.args.words.now s.memory) s) c.reset.ensures.state
    ∙ ap (λ x. with_memory x state) (memory_is c.args.boot.now c.args.words.now m h)
