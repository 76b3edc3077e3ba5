use Rattle.std.proofs.Common.{◌≡◌, ◌∙◌, sym, eqb, get_or, arith}
use Rattle.std.proofs.lemmas.Bool.Decides.{nat_tests}
use Rattle.s161_debug.proofs.Words.{silent_empty, silent_test}
use Rattle.s161_debug.proofs.asked.is_silent.Goals as goal

pub returns-then-is_empty : goal.returns-then-is_empty
returns-then-is_empty c = silent_empty c.args.line.now (grind (arith, nat_tests))

pub returns : goal.returns
returns c =
    let test : c.starts_with.result ≡ eqb (get_or c.args.line.now 0 0) 35 = c.starts_with.ensures.byte (omega arith) (omega arith) (λ _ _ h. h) in
    test ∙ sym (silent_test c.args.line.now (grind (arith, nat_tests)))
