use Rattle.std.proofs.Common.{refl, arith}
use Rattle.m161_asm.proofs.place.Position.move_to.Goals as goal

pub returns : goal.returns
returns c =
    record {
      position =
          record {
            address = omega arith;
            words = c.requires.words;
            segments = c.requires.segments;
            ordered = c.in_ok-reopen.ensures.ordered;
          };
      address = c.from-start.ensures;
      words = refl;
      segments = refl;
      has_words = refl;
      fills = c.in_ok-reopen.ensures.fills;
    }
