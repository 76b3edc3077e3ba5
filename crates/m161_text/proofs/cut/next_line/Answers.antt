use Rattle.std.proofs.Common.{◌∙◌, ap, arith, inl, inr, refl}
use Rattle.std.proofs.lemmas.Bool.Decides.{nat_tests}
use Rattle.m161_text.specs.Lines.{lines_of}
use Rattle.m161_text.proofs.Feeds.{lines_cut, lines_last}
use Rattle.m161_text.proofs.cut.next_line.Goals as goal

pub returns-in-Some-clause-lines : goal.returns-in-Some-clause-lines
returns-in-Some-clause-lines c = ap lines_of c.in-Some.ensures.1 ∙ lines_cut _ _ c.in-Some.ensures.0

pub returns-in-None-clause-lines : goal.returns-in-None-clause-lines
returns-in-None-clause-lines c = lines_last c.args.text.now (grind (arith, nat_tests)) c.in-None.ensures

pub returns-in-Some-clause-cut : goal.returns-in-Some-clause-cut
returns-in-Some-clause-cut c = (c.in-Some.ensures.0, inl c.in-Some.ensures.1)

pub returns-in-None-clause-cut : goal.returns-in-None-clause-cut
returns-in-None-clause-cut c = (c.in-None.ensures, inr (refl, refl))
