use Rattle.std.proofs.Common.{◌≡◌, ◌+◌, ◌*◌, arith}
use Rattle.std.specs.List.{slice_range}
use Rattle.std.proofs.lemmas.Slice.Eq.{bytes_eq-Decides}
use Rattle.m161_alike.proofs.Memory.{block_unchanged}
use Rattle.m161_alike.proofs.words.is_same_block.Goals as goal

pub returns-then-end-memory-clause-same : goal.returns-then-end-memory-clause-same
returns-then-end-memory-clause-same c = λ yes.
    let at = 4 * c.args.place in
    let same : slice_range c.args.memory.now at (at + 256) ≡ slice_range c.args.boot.now at (at + 256) = grind (arith, bytes_eq-Decides, c.eq.ensures, yes) in
    block_unchanged c.args.boot.now c.args.memory.now c.args.place same
