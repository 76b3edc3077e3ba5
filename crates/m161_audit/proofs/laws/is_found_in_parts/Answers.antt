use Rattle.m161_audit.proofs.Parts.{in_parts}
use Rattle.m161_audit.proofs.laws.is_found_in_parts.Goals as goal

pub returns : goal.returns
returns c = in_parts
