use Rattle.std.proofs.Common.{refl}
use Rattle.m161_machine.specs.declared.event.Event.TheVariants.{Key}
use Rattle.m161_threads.proofs.Events.{keeps_input}
use Rattle.m161_threads.proofs.book.Book.key_in.Goals as goal

pub invariant_of-self : goal.invariant_of-self
invariant_of-self g c =
    keeps_input c.self.inside.machine c.key.new.self (Key c.args.byte) c.key.result
    c.self.inside.steps.total c.self.inside.offs.total (λ _. refl) c.key.ensures c.self.invariant
