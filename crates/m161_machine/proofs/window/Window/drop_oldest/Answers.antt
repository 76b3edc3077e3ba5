use Rattle.std.proofs.Common.{ap, arith, rules}
use Rattle.circular_buffer.specs.Buffer.{Buffer}
use Rattle.m161_machine.specs.History.{transfers_of}
use Rattle.m161_machine.proofs.Transfers.{split_transfers}
use Rattle.m161_machine.proofs.window.Window.drop_oldest.Goals as goal

pub invariant_of-self : goal.invariant_of-self
invariant_of-self g c =
    let all = split_transfers c.self.inside.entries.items c.args.number in
    let left = ap (λ (b : Buffer _). transfers_of b.items) c.make_oldest.ensures.entries in
    let before = c.self.invariant.0 in
    let sent = c.make_oldest.ensures.sent in
    (omega (arith, all, left, before, sent), search rules)
