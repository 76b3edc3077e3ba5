use Rattle.std.proofs.Common.{refl, arith}
use Rattle.m161_asm.specs.Text.{address_below, is_filled}
use Rattle.m161_asm.proofs.place.Position.new.Goals as goal

pub returns : goal.returns
unfolding address_below is_filled
returns c =
    record {
      position =
          record {
            address = omega
                (arith, c.from-address.ensures);
            words = omega arith;
            segments = omega arith;
            ordered
                = c.new-ground.ensures.ordered;
          };
      address = c.from-address.ensures;
      words = refl;
      segments = refl;
      has_words = refl;
      fills = c.new-ground.ensures.fills;
    }
