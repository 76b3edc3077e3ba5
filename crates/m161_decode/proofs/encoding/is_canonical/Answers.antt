use Rattle.std.specs.Prelude.{is_some}
use Rattle.std.proofs.Common.{sym, ap, ◌∙◌}
use Rattle.m161_decode.proofs.Canonical.{canonical, canonical_fits}
use Rattle.m161_decode.proofs.encoding.is_canonical.Goals as goal

pub returns-then-has_row : goal.returns-then-has_row
returns-then-has_row c =
    canonical c.args.word c.encode.result c.decode-instr.result c.decode-instr.ensures.value
    c.encode.ensures
    (sym (ap is_some c.decode-instr.ensures.row) ∙ c.has_row.ensures.0 c.if-has_row.true)

pub returns-else-has_row : goal.returns-else-has_row
returns-else-has_row c = (
  λ t. absurd (let never : ⊥ = cc in never),
  λ h. c.has_row.ensures.1
      (ap is_some c.decode-instr.ensures.row ∙ canonical_fits c.args.word h),
)
