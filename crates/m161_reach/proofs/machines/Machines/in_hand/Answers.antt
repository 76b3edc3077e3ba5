use Rattle.std.proofs.Common.{◌≡◌, ◌∙◌, ap, sym, subst, arith, ℕ, List, ◌++◌, length}
use Rattle.m161_alike.specs.Addresses.{Cover, addresses_in}
use Rattle.m161_alike.specs.Words.{memory_words}
use Rattle.m161_alike.proofs.Covering.{cover_told}
use Rattle.m161_states.specs.Question.{Question, booted}
use Rattle.m161_states.specs.System.{Explored}
use Rattle.m161_reach.proofs.Asked.{bytes_are}
use Rattle.m161_reach.proofs.machines.Machines.in_hand.Goals as goal

pub returns-clause-ready : goal.returns-clause-ready
returns-clause-ready g c =
    let q = c.args.self.now in
    let place = c.args.place in
    let bytes = bytes_are c.self.inside.boot.now.state c.self.inside.goal.now c.self.inside.known c.self.invariant in
    let boot_is : c.memory.result.now ≡ (booted q).bytes = c.memory.ensures ∙ bytes ∙ ap (λ (r : Question). (booted r).bytes) c.self.view_is in
    let memory_is : c.place.inside.core.state.memory ≡ place.state.memory = ap (λ (y : Explored). y.state.memory) c.place.view_is in
    let words : c.scan_memory.new.out.items ≡ memory_words (booted q).bytes place.state.memory =
    c.in_ok-scan_memory.ensures.ok
    ∙ ap (λ (l : List ℕ). l ++ memory_words c.memory.result.now c.place.inside.core.state.memory) c.new-words.ensures.items
    ∙ (λ i. memory_words (boot_is i) (memory_is i)) in
    record {
      met = c.requires;
      words = λ some. absurd (let size = ap length c.new.ensures.items in let bad : ⊥ = omega (arith, size, some) in bad);
      changed = subst (λ (l : List ℕ). Cover (booted q).bytes place.state.memory l)
          (sym (c.in_ok-read_addresses.ensures ∙ ap addresses_in (c.deref.ensures.value ∙ words))) (cover_told (booted q).bytes place.state.memory);
    }
