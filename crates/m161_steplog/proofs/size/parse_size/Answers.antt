use Rattle.std.proofs.Common.{◌≡◌, ◌∙◌, ◌++◌, sym, codes, ap}
use Rattle.m161_steplog.proofs.Sizes.{no_size, size_read}
use Rattle.m161_steplog.proofs.size.parse_size.Goals as goal

pub returns-in_err-ram : goal.returns-in_err-ram
returns-in_err-ram c =
    let cut = c.in_ok-strip_prefix.ensures.cases in
    let is : c.args.line.now ≡ codes "# machine " ++ c.in_ok-strip_prefix.field-0.now = cut.1.1 ∙ ap (λ r. codes "# machine " ++ r) (sym cut.2) in
    rw c.from_residual-in_err-ram.ensures (no_size c.args.line.now _ is c.in_err-ram.ensures)

pub returns : goal.returns
returns c =
    let cut = c.in_ok-strip_prefix.ensures.cases in
    let is : c.args.line.now ≡ codes "# machine " ++ c.in_ok-strip_prefix.field-0.now = cut.1.1 ∙ ap (λ r. codes "# machine " ++ r) (sym cut.2) in
    size_read c.args.line.now _ _ _ _ is c.in_ok-ram.ensures
