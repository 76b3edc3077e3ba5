use Rattle.std.proofs.Common.{◌≡◌, refl, ◌^◌, [], ◌∷◌}
use Rattle.m161_drive.specs.Words.{after_word, draws, seeded, word}

-- The words that O'Neill's paper prints of seed 42, and numbers of three seeds that a program of
-- another language gave.

words_of_42 : draws 6 (2 ^ 32) (seeded 42)
    ≡ 0xa15c02b7 ∷ 0x7b47f409 ∷ 0xba1d3330 ∷ 0x83d2f293 ∷ 0xbfa4784b ∷ 0xcbed606e ∷ []
unfolding seeded word after_word
words_of_42 = refl

of_two : draws 16 2 (seeded 0) ≡ 0 ∷ 1 ∷ 0 ∷ 1 ∷ 1 ∷ 1 ∷ 0 ∷ 0 ∷ 0 ∷ 0 ∷ 1 ∷ 0 ∷ 1 ∷ 0 ∷ 0 ∷ 1 ∷ []
unfolding seeded word after_word
of_two = refl

of_five : draws 16 5 (seeded 1) ≡ 3 ∷ 0 ∷ 4 ∷ 2 ∷ 2 ∷ 0 ∷ 3 ∷ 3 ∷ 0 ∷ 2 ∷ 1 ∷ 1 ∷ 2 ∷ 2 ∷ 3 ∷ 4 ∷ []
unfolding seeded word after_word
of_five = refl
