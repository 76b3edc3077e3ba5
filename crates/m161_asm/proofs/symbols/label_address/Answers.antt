use Rattle.std.proofs.Common.{◌∙◌}
use Rattle.m161_asm.specs.Text.{label_address}
use Rattle.m161_asm.proofs.Tables.{looked_up}
use Rattle.m161_asm.proofs.symbols.label_address.Goals as goal

pub returns-in-Some : goal.returns-in-Some
unfolding label_address
returns-in-Some c = c.in-Some.ensures.value ∙ looked_up _ c.args.name.now

pub returns-in-None : goal.returns-in-None
unfolding label_address
returns-in-None c = c.in-None.ensures.value ∙ looked_up _ c.args.name.now
