use Rattle.std.proofs.Common.{◌≡◌, ◌∙◌, ap, ℕ, ◌*◌, ◌/◌, ◌^◌}
use Rattle.rand_pcg.specs.Lcg.{Lcg}
use Rattle.m161_drive.specs.Words.{after_word, word}
use Rattle.m161_drive.proofs.words.below.Goals as goal

pub returns-clause-number : goal.returns-clause-number
unfolding word
returns-clause-number c =
    let drawn : c.next_word-word.result ≡ word c.args.generator.now = ap (λ (x : ℕ × Lcg). x.0) c.next_word-word.ensures in
    let both : c.from.result ≡ word c.args.generator.now = c.from.ensures ∙ drawn in
    λ i. both i * c.from-2.ensures i / 2 ^ 32

pub returns-clause-after : goal.returns-clause-after
unfolding after_word
returns-clause-after c = ap (λ (x : ℕ × Lcg). x.1) c.next_word-word.ensures
