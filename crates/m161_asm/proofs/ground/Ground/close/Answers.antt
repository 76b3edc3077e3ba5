use Rattle.std.proofs.Common.{arith}
use Rattle.m161_asm.proofs.Grounds.{splits_within, ordered-insert, meets-insert, reach_end}
use Rattle.m161_asm.proofs.ground.Ground.close.Goals as goal

pub insert-requires : goal.insert-requires
insert-requires c =
    let s = splits_within c.args.self.now.runs.items c.args.self.now.start c.args.self.now.next
    c.requires.split in
    omega (arith, s, c.args.self.now.runs.ok)

pub returns-in_ok-insert-clause-order : goal.returns-in_ok-insert-clause-order
returns-in_ok-insert-clause-order c =
    let g = c.args.self.now in
    rw c.in_ok-insert.ensures.items
    (ordered-insert g.runs.items 0 g.next
    (record { start = g.start; end = c.args.end }) c.requires.order c.requires.split
    (omega arith) c.if-self-end.true (reach_end g c.args.end c.requires c.if-self-end.true))

pub returns-in_ok-insert-clause-fills : goal.returns-in_ok-insert-clause-fills
returns-in_ok-insert-clause-fills c = λ a n.
    let g = c.args.self.now in
    rw c.in_ok-insert.ensures.items
    (meets-insert g.runs.items g.next (record { start = g.start; end = c.args.end }) a n
    (splits_within g.runs.items g.start g.next c.requires.split))
