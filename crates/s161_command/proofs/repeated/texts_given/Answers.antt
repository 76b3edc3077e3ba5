use Rattle.std.proofs.Common.{◌∙◌, ap, map}
use Rattle.clap.specs.Words.{found_of, rows_of}
use Rattle.clap.proofs.WalkLemmas.{raw_values-rows}
use Rattle.s161_command.proofs.Repeating.{if_ok, no_texts, some_texts}
use Rattle.s161_command.proofs.repeated.texts_given.Goals as goal

pub returns-in-Some : goal.returns-in-Some
returns-in-Some c =
    let texts = some_texts c.args.name.now (rows_of (found_of c.args.given.now)) c.get_strs.result c.in-Some.texts
    (c.get_strs.ensures ∙ raw_values-rows (found_of c.args.given.now) c.args.name.now) c.in-Some.is in
    if_ok _ _ c.from_slice.result (λ copy h. ap (map (λ text. text.now)) h ∙ texts) c.from_slice.ensures.items

pub returns-in-None : goal.returns-in-None
returns-in-None c =
    ap (map (λ text. text.now)) c.new.ensures.items
    ∙ no_texts c.args.name.now (rows_of (found_of c.args.given.now)) c.get_strs.result
    (c.get_strs.ensures ∙ raw_values-rows (found_of c.args.given.now) c.args.name.now) c.in-None.is
