use Rattle.std.specs.Prelude.{map}
use Rattle.std.proofs.Common.{ap}
use Rattle.m161_asm.specs.Text.{symbols_in}
use Rattle.m161_asm.specs.Seen.{symbol_seen}
use Rattle.m161_asm.proofs.first.FirstPass.new.Goals as goal

pub returns-clause-pass : goal.returns-clause-pass
unfolding symbols_in
returns-clause-pass c =
    record {
      position = rw c.new.ensures.items c.new-3.ensures;
      symbols = rw c.new.ensures.items (ap (map symbol_seen) c.with_hasher.ensures.empty);
    }
