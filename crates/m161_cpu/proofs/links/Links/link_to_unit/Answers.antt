use Rattle.std.proofs.Common.{Some, rules, ◌∙◌}
use Rattle.std.proofs.lemmas.List.{length-set}
use Rattle.m161_cpu.proofs.Linked.{bits_with}
use Rattle.m161_cpu.proofs.links.Links.link_to_unit.Goals as goal

pub invariant_of-self : goal.invariant_of-self
invariant_of-self c =
    let linked = c.self.inside.linked in
    let to = c.args.first in (
      length-set linked c.args.c (Some to) ∙ c.self.invariant.0,
      bits_with linked c.self.inside.live c.args.c c.self.invariant.0 (search rules) to
          c.self.invariant.1,
    )
