use Rattle.std.proofs.Common.{◌≡◌, None, rules, subst}
use Rattle.m161_debug.specs.Commands.{AreParts, IsNumber, IsPlace}
use Rattle.m161_debug.specs.helpers.Reading.{Finds}
use Rattle.m161_debug.proofs.Asked.{no_code}
use Rattle.m161_debug.proofs.command.code_of.Goals as goal

pub returns-in-None : goal.returns-in-None
returns-in-None c =
    let none : c.address_and_count.result ≡ None = search rules in
    no_code c.args.symbols.now c.args.arguments.now (subst (λ r. Finds (AreParts (IsPlace c.args.symbols.now) IsNumber) c.args.arguments.now r) none c.address_and_count.ensures) c.in-None.ensures
