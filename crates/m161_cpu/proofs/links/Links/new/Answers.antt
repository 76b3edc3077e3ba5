use Rattle.std.proofs.Common.{refl}
use Rattle.m161_cpu.proofs.Linked.{none_begins}
use Rattle.m161_cpu.proofs.links.Links.new.Goals as goal

pub invariant_of-result : goal.invariant_of-result
invariant_of-result c = (refl, none_begins)
