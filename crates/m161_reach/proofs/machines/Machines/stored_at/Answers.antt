use Rattle.std.proofs.Common.{◌≡◌, ◌∙◌, ap, sym, arith, true, Bool, None}
use Rattle.std.specs.Prelude.{if◌then◌else◌, nat_lt}
use Rattle.std.proofs.lemmas.Bool.Decides.{nat_tests}
use Rattle.m161_cpu.specs.declared.uses.Uses.{Uses}
use Rattle.m161_machine.specs.Uses.{uses_in}
use Rattle.m161_states.specs.Question.{processors_of}
use Rattle.m161_states.specs.System.{Explored}
use Rattle.m161_reach.proofs.Asked.{processors_are}
use Rattle.m161_reach.proofs.Fresh.{fresh_uses}
use Rattle.m161_reach.proofs.machines.Machines.stored_at.Goals as goal

pub returns-then-event-processors : goal.returns-then-event-processors
returns-then-event-processors g c =
    let q = c.args.self.now in
    let n = c.args.event in
    let size : c.processors.result ≡ processors_of q =
    c.processors.ensures ∙ c.law.ensures.number
    ∙ processors_are c.self.inside.boot.now.state c.self.inside.goal.now c.self.inside.known c.self.invariant
    ∙ ap processors_of c.self.view_is in
    let below = c.if-event-processors.true in
    let test : nat_lt n (processors_of q) ≡ true = grind (arith, nat_tests, size, below) in
    let uses_is = c.uses.ensures.value ∙ sym (fresh_uses n c.place.inside.core.state) ∙ ap (λ (x : Explored). uses_in n x.state) c.place.view_is in
    ap (λ (u : Uses). u.stored) uses_is
    ∙ sym (ap (λ (b : Bool). if b then (uses_in n c.args.place.now.state).stored else None) test)
