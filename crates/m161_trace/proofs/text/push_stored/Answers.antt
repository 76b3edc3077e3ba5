use Rattle.std.proofs.Common.{◌∙◌, ◌∷◌, ◌++◌, ap, append_assoc, string_bytes}
use Rattle.std.specs.Prelude.{codes}
use Rattle.m161_text.specs.Parts.{word_text}
use Rattle.m161_trace.specs.Line.{ram_place}
use Rattle.m161_trace.proofs.Spaced.{glued_ok}
use Rattle.m161_trace.proofs.text.push_stored.Goals as goal

pub returns : goal.returns
returns c =
    let place = ram_place c.args.style.now.symbols c.args.at in
    let head = 32 ∷ (codes "[" ++ word_text c.args.at) in
    glued_ok _ (string_bytes c.args.text.now) _ _ _ (head ++ place) (codes "]=") (word_text c.args.word)
    (c.in_ok-push_ram_place.ensures ∙ ap (λ bs. bs ++ place) c.in_ok-push_open.ensures ∙ append_assoc (string_bytes c.args.text.now) head place)
    c.in_ok-push_close.ensures c.push_hex.ensures.bytes
