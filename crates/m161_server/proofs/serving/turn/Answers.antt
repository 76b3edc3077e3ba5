use Rattle.std.proofs.Common.{subst}
use Rattle.m161_server.specs.helpers.Streams.{ReadsByte}
use Rattle.m161_server.proofs.Passing.{took}
use Rattle.m161_server.proofs.serving.turn.Goals as goal

pub returns-clause-serves : goal.returns-clause-serves
returns-clause-serves g c = λ place before written so_far.
    let course = g.T.Run.course c.args.target.now in
    let left = g.I.Read.remaining c.args.input.now in
    let l = g.I.Read.remaining c.read_byte.new.input in
    took (g.T.Run.fails course) course place before written (g.T.Run.place c.args.target.now) c.args.talk.now left (g.O.Write.contents c.args.output.now) so_far
    (g.T.Run.place c.take_byte.new.target) c.take_byte.new.talk l (g.O.Write.contents c.take_byte.new.output) c.in-Some.byte
    (subst (λ o. ReadsByte left o l) c.in-Some.is c.in_ok-byte.ensures.ok)
    c.take_byte.result (c.take_byte.ensures.takes so_far.bytes so_far.past so_far.has_read so_far.received)
