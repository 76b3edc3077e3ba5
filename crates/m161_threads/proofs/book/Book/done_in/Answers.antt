use Rattle.std.proofs.Common.{refl}
use Rattle.m161_machine.specs.declared.event.Event.TheVariants.{Done}
use Rattle.m161_threads.proofs.Events.{keeps_input}
use Rattle.m161_threads.proofs.book.Book.done_in.Goals as goal

pub invariant_of-self : goal.invariant_of-self
invariant_of-self g c =
    keeps_input c.self.inside.machine c.done.new.self Done c.done.result
    c.self.inside.steps.total c.self.inside.offs.total (λ _. refl) c.done.ensures c.self.invariant
