use Rattle.std.proofs.Common.{length}
use Rattle.s161_base.proofs.pieces.+put_characters.Given as goal

abbrev pub decreases-put_characters : goal.decreases-put_characters
decreases-put_characters g l = length l.characters.now
