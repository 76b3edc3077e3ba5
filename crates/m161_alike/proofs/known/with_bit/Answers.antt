use Rattle.std.proofs.Common.{◌||◌, ◌∙◌, ap, sym}
use Rattle.m161_isa.specs.Bits.{has_bit}
use Rattle.m161_alike.proofs.Bits.{bit_set, bit_stays}
use Rattle.m161_alike.proofs.known.with_bit.Goals as goal

pub returns-then-set-clause-same : goal.returns-then-set-clause-same
returns-then-set-clause-same c =
    bit_set c.args.word c.args.p c.requires
    ∙ ap (λ set. set || has_bit c.args.word c.args.p) (sym c.if-set.true)

pub returns-then-set-clause-others : goal.returns-then-set-clause-others
returns-then-set-clause-others c = λ q within other.
    bit_stays c.args.word c.args.p q c.requires within other
