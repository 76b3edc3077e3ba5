use Rattle.std.proofs.Common.{◌≡◌, ◌∙◌, rules, sym, ap}
use Rattle.std.proofs.lemmas.List.{get_or_default}
use Rattle.m161_bus.specs.Board.{interrupt_lines}
use Rattle.m161_cpu.specs.Scene.{around, scene}
use Rattle.m161_cpu.specs.Uses.{fetches}
use Rattle.m161_machine.specs.State.{processor_at}
use Rattle.m161_machine.proofs.state.Core.fetches.Goals as goal

pub returns : goal.returns
returns g c =
    let s = c.args.self.now.state in
    let a = around c.args.p s.memory s.board s.links s.conf.strict in
    let lines = sym (ap (λ v. interrupt_lines c.args.p v.state.board) c.self.view_is) ∙ sym c.lines.ensures.lines in
    let here : c.index.result.now ≡ processor_at c.args.p s.processors = search (rules, get_or_default) in
    c.fetches.ensures a lines ∙ ap (λ p. fetches (scene p a)) here
