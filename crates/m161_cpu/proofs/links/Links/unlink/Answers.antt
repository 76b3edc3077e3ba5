use Rattle.std.proofs.Common.{None, rules, ◌∙◌}
use Rattle.std.proofs.lemmas.List.{length-set}
use Rattle.m161_cpu.proofs.Linked.{bits_without}
use Rattle.m161_cpu.proofs.links.Links.unlink.Goals as goal

pub invariant_of-self : goal.invariant_of-self
invariant_of-self c =
    let linked = c.self.inside.linked in (
      length-set linked c.args.c None ∙ c.self.invariant.0,
      bits_without linked c.self.inside.live c.args.c c.self.invariant.0 (search rules)
          c.self.invariant.1,
    )
