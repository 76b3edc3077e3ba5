use Rattle.std.proofs.Common.{◌<◌, arith}
use Rattle.m161_server.specs.Texts.{bytes_from}
use Rattle.m161_server.proofs.Loops.{byte_step}
use Rattle.m161_server.proofs.registers.bytes_from.Goals as goal

pub loop-left-preserved : goal.loop-left-preserved
loop-left-preserved g c =
    let byte = (g.T.Run.course c.args.target.now).scene.byte (g.T.Run.place c.args.target.now) c.args.processor in
    let some : 0 < c.loop-left.left = omega arith in
    let sum = c.loop-left.invariant.sum in
    record {
      so_far = byte_step byte c.loop-left.bytes.items c.push.new.self.items (bytes_from byte c.args.address c.args.number)
          c.loop-left.at c.loop-left.left c.in-Some.byte c.loop-left.invariant.so_far some c.in-Some.ensures c.in_ok-push.ensures.items;
      sum = omega (arith, some, sum);
    }
