use Rattle.std.proofs.Common.{◌∙◌, ap, length, sym}
use Rattle.m161_bus.specs.Board.{BoardState}
use Rattle.m161_cpu.specs.Links.{LinkState}
use Rattle.m161_machine.specs.helpers.History.{start_of}
use Rattle.m161_machine.proofs.Booted.{sound_at_boot}
use Rattle.m161_machine.proofs.state.Core.at_boot.Goals as goal

pub invariant_of-result : goal.invariant_of-result
invariant_of-result g c = (
  sound_at_boot (start_of c.args.bytes.items c.args.entry c.args.conf) c.in_ok-processors.processors.items c.from_bytes.result c.new.result.state c.new-2.result
      c.requires.limits (ap length c.from_bytes.ensures ∙ c.requires.ram) (ap (λ (b : BoardState). b.processors) c.new.ensures.state) (ap (λ (l : LinkState). l.unit) c.new-2.ensures) c.in_ok-processors.ensures,
  sym (ap (λ (b : BoardState). b.started) c.new.ensures.state),
  c.new.ensures.changed,
)
