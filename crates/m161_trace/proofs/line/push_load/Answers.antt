use Rattle.std.proofs.Common.{◌∙◌, ◌++◌, ◌∷◌, [], ap, append_assoc, string_bytes}
use Rattle.m161_text.specs.Parts.{word_text}
use Rattle.m161_trace.specs.Line.{load_place}
use Rattle.m161_trace.proofs.Spaced.{glued_ok}
use Rattle.m161_trace.proofs.line.push_load.Goals as goal

pub returns : goal.returns
returns c =
    let old = string_bytes c.args.text.now in
    let head = 32 ∷ 32 ∷ 40 ∷ [] in
    let at = word_text c.args.load.at in
    let place = load_place c.args.symbols.now c.args.load in
    glued_ok _ old _ _ _ (head ++ at ++ place) (41 ∷ 61 ∷ []) (word_text c.args.load.word)
    (c.in_ok-push_load_place.ensures
    ∙ ap (λ bs. bs ++ place) (c.in_ok-push_hex.ensures.bytes ∙ ap (λ bs. bs ++ at) c.in_ok-push_str.ensures.bytes ∙ append_assoc old head at)
    ∙ append_assoc old (head ++ at) place)
    c.in_ok-push_str-2.ensures.bytes c.push_hex-2.ensures.bytes
