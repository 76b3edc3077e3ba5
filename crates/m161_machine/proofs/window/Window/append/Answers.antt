use Rattle.std.proofs.Common.{rules}
use Rattle.m161_machine.proofs.Sliding.{room_left, slid_by}
use Rattle.m161_machine.proofs.window.Window.append.Goals as goal

pub returns-clause-slid : goal.returns-clause-slid
returns-clause-slid g c =
    slid_by c.args.base.now.state c.make_room.new.base.state c.args.self.now c.push.new.self c.args.kept.now c.saturating_sub-lost.result
    (search rules) c.requires.few.0 (search rules) c.make_room.ensures.leads (search rules)

pub returns-clause-room : goal.returns-clause-room
returns-clause-room g c =
    room_left c.args.self.now c.push.new.self c.args.kept.now c.saturating_sub-lost.result c.args.transfers c.args.base.now.room c.make_room.new.base.room
    c.requires.transfers c.requires.room c.make_room.ensures.room (search rules)
