use Rattle.std.proofs.Common.{IsUtf8, refl, subst, sym}
use Rattle.std.proofs.lemmas.Grind.{not_there}
use Rattle.s161_debug.proofs.serving.do_line.Goals as goal

pub returns-in_default : goal.returns-in_default
returns-in_default g c =
    (λ text. not_there text (λ utf8. c.in_default.ensures.cases.0 (subst IsUtf8 (sym c.deref.ensures.value) utf8)), refl, refl)
