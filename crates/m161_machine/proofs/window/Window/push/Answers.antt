use Rattle.std.proofs.Common.{arith}
use Rattle.m161_machine.proofs.Transfers.{few_transfers}
use Rattle.m161_machine.proofs.window.Window.push.Goals as goal

pub overflow_add-self : goal.overflow_add-self
overflow_add-self c =
    let some = few_transfers c.self.inside.entries.items in
    let more = few_transfers c.args.kept.now in
    let before = c.self.invariant.0 in
    let number = c.requires.transfers in
    let within = c.capacity-within.ensures.within in
    let room = c.requires.room in
    omega (arith, some, more, before, number, within, room)
