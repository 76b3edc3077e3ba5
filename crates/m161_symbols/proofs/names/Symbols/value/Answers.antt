use Rattle.std.proofs.Common.{◌∙◌}
use Rattle.m161_symbols.proofs.Found.{looked_up}
use Rattle.m161_symbols.proofs.names.Symbols.value.Goals as goal

pub returns-in-Some : goal.returns-in-Some
returns-in-Some c =
    rw (← c.self.view_is)
    (c.in-Some.ensures.value ∙ looked_up _ c.args.name.now ∙ c.self.invariant.1 c.args.name.now)

pub returns-in-None : goal.returns-in-None
returns-in-None c =
    rw (← c.self.view_is)
    (c.in-None.ensures.value ∙ looked_up _ c.args.name.now ∙ c.self.invariant.1 c.args.name.now)
