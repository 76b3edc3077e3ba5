use Rattle.std.proofs.Common.{◌≡◌, ◌∙◌, ◌++◌, ap, codes, sym}
use Rattle.m161_debug.proofs.Parts.{digits_alone, digits_behind}
use Rattle.m161_debug.proofs.reading.digits_of.Goals as goal

pub returns-in-Some : goal.returns-in-Some
returns-in-Some c = λ k n.
    let is : c.args.text.now ≡ codes "0x" ++ c.in-Some.digits.now = c.in-Some.ensures.cases.1.1 ∙ ap (λ r. codes "0x" ++ r) (sym c.in-Some.ensures.cases.2) in
    digits_behind c.args.text.now c.in-Some.digits.now k n is

pub returns-in-None : goal.returns-in-None
returns-in-None c = λ k n. digits_alone c.args.text.now k n (λ rest same. c.in-None.ensures.cases rest same)
