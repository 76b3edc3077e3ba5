use Rattle.std.specs.Prelude.{ℕ, ◌*◌, ◌/◌, ◌^◌, zero, suc, List, [], ◌∷◌}
use Rattle.rand_pcg.specs.Lcg.{Lcg, increment_of, started}
use Rattle.rand_pcg.specs.Pcg.{multiplier_64, pcg32}

-- The words of a seed, and the numbers made of them. They are those of PCG32 (O'Neill 2014).

-- the generator of a seed, before its first word
unfoldable pub seeded : ℕ → Lcg
seeded seed = started 64 multiplier_64 seed (increment_of 64 54)

-- the next word, of 32 bits
unfoldable pub word : Lcg → ℕ
word g = (pcg32 g).0

unfoldable pub after_word : Lcg → Lcg
after_word g = (pcg32 g).1

-- the next word as a number below m
abbrev pub below : ℕ → Lcg → ℕ
below m g = word g * m / 2 ^ 32

-- the next n words as numbers below m
abbrev pub draws : ℕ → ℕ → Lcg → List ℕ
draws zero m g = []
draws (suc n) m g = below m g ∷ draws n m (after_word g)

abbrev pub after_words : ℕ → Lcg → Lcg
after_words zero g = g
after_words (suc n) g = after_words n (after_word g)
