use Rattle.std.proofs.Common.{◌≡◌, ◌∷◌, ◌++◌}
use Rattle.std.specs.Prelude.{codes, string_bytes}
use Rattle.std.proofs.lemmas.Result.{IfOk-weaker}
use Rattle.m161_text.specs.Lines.{with_line_end}
use Rattle.s161_work.specs.Works.{IsClashText}
use Rattle.s161_work.proofs.refusing.clash_text.Goals as goal

pub returns : goal.returns
returns c =
    let why = string_bytes c.in_ok-why.why in
    IfOk-weaker c.format-2.result
    (λ text. string_bytes text ≡ codes "error: " ++ (why ++ 10 ∷ 10 ∷ with_line_end (codes "For more information, try '--help'.")))
    (λ text. IsClashText (string_bytes text)) (λ text is. (why, is)) c.format-2.ensures.ok
