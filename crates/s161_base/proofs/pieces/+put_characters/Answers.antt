use Rattle.s161_base.proofs.Putting.{puts_less, puts_same, puts_then}
use Rattle.s161_base.proofs.Words.{rest_put}
use Rattle.s161_base.proofs.pieces.+put_characters.Goals as goal

pub returns-in_err-put_character-in-len1-up : goal.returns-in_err-put_character-in-len1-up
returns-in_err-put_character-in-len1-up g t c =
    puts_same _ _ _ _ _ (rest_put c.args.characters.now c.first-item.result c.in-len1-up.len_at_least c.first-item.is)
    (puts_less _ _ _ _ _ _ c.in_err-put_character-in-len1-up.ensures c.from_residual.ensures.1)

pub returns-in_ok-put_character-in-len1-up : goal.returns-in_ok-put_character-in-len1-up
returns-in_ok-put_character-in-len1-up g t c =
    puts_same _ _ _ _ _ (rest_put c.args.characters.now c.first-item.result c.in-len1-up.len_at_least c.first-item.is)
    (puts_then _ _ _ _ _ _ c.in_ok-put_character-in-len1-up.ensures c.put_characters.ensures)
