use Rattle.std.proofs.Common.{◌∙◌, sym, arith, drop, length, length-drop}
use Rattle.std.proofs.lemmas.List.{drop-drop, drop_all}
use Rattle.s161_debug.proofs.left.used_after.Goals as goal

pub returns-then-number-left-clause-left : goal.returns-then-number-left-clause-left
returns-then-number-left-clause-left c = sym (drop-drop c.args.number c.args.used c.args.events.now)

pub returns-else-number-left-clause-left : goal.returns-else-number-left-clause-left
returns-else-number-left-clause-left c =
    let long = length-drop c.args.used c.args.events.now in
    drop_all (length c.args.events.now) c.args.events.now (omega arith)
    ∙ sym (drop_all c.args.number (drop c.args.used c.args.events.now) (omega (arith, long)))
