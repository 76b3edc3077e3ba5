use Rattle.std.specs.Prelude.{[], ◌∷◌, map, Ok}
use Rattle.std.proofs.Common.{refl, ap, sym}
use Rattle.m161_asm.specs.Text.{segments_of, address_below, entry_of}
use Rattle.m161_asm.specs.Segments.{segment_seen}
use Rattle.m161_asm.proofs.second.SecondPass.new.Goals as goal

pub returns : goal.returns
unfolding segments_of address_below entry_of
returns c = λ symbols.
    record {
      older = [];
      segments = ap (λ ws. Ok ((0x80000200, ws) ∷ [])) (sym c.new-2.ensures.items);
      done = ap (map segment_seen) (sym c.new.ensures.items);
      address = c.from.ensures;
      entry = λ first. refl;
    }
