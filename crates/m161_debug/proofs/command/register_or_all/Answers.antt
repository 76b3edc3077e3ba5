use Rattle.std.proofs.Common.{◌≡◌, None, rules, subst}
use Rattle.m161_debug.specs.Commands.{IsNumber}
use Rattle.m161_debug.specs.helpers.Reading.{Finds}
use Rattle.m161_debug.proofs.Asked.{no_registers}
use Rattle.m161_debug.proofs.command.register_or_all.Goals as goal

pub returns-in-None : goal.returns-in-None
returns-in-None c = λ symbols.
    let none : c.number.result ≡ None = search rules in
    no_registers symbols c.args.arguments.now (subst (λ r. Finds IsNumber c.args.arguments.now r) none c.number.ensures) c.in-None.ensures
