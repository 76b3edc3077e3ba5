use Rattle.std.proofs.Common.{◌+◌, refl, ap}
use Rattle.m161_asm.proofs.Positions.{grew}
use Rattle.m161_asm.proofs.place.Position.grow.Goals as goal

pub returns : goal.returns
returns c =
    grew c.args.self.now _ c.args.size c.requires.position c.requires.room refl refl
    (ap (λ x. c.args.self.now.segments + x) c.new_segments-opened.ensures.value)
    c.has_words_with-self.ensures refl
