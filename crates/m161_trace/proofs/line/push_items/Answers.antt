use Rattle.m161_trace.proofs.Spaced.{nothing_behind, some_behind}
use Rattle.m161_trace.proofs.line.push_items.Goals as goal

pub returns-then-items-eq0 : goal.returns-then-items-eq0
returns-then-items-eq0 c = λ is are. nothing_behind c.args.style.now _ _ is c.if-items-eq0.true are

pub returns : goal.returns
returns c = λ is are. some_behind _ c.args.style.now _ _ _ _ is c.if-items-eq0.false are c.in_ok-push_part.ensures c.push_part-2.ensures
