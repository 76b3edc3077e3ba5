use Rattle.std.proofs.Common.{◌≡◌, ◌++◌, ◌+◌}
use Rattle.m161_server.specs.Texts.{bytes_from}
use Rattle.m161_server.proofs.registers.bytes_from.Given as goal

abbrev pub invariant-loop-left : goal.invariant-loop-left
invariant-loop-left g l = record {
  so_far : l.bytes.items ++ bytes_from ((g.T.Run.course l.target).scene.byte (g.T.Run.place l.target) l.processor) l.at l.left
      ≡ bytes_from ((g.T.Run.course l.target).scene.byte (g.T.Run.place l.target) l.processor) l.address l.number;
  sum : l.at + l.left ≡ l.address + l.number;
}

abbrev pub decreases-loop-left : goal.decreases-loop-left
decreases-loop-left g l = l.left
