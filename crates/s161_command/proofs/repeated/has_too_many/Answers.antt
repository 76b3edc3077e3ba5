use Rattle.std.proofs.Common.{◌∙◌, sym, ap, arith, length}
use Rattle.std.proofs.lemmas.Bool.Decides.{nat_tests}
use Rattle.std.proofs.lemmas.List.{length-map}
use Rattle.clap.specs.Words.{found_of, rows_of}
use Rattle.clap.proofs.WalkLemmas.{raw_values-rows}
use Rattle.s161_command.proofs.Repeating.{no_texts, some_texts}
use Rattle.s161_command.proofs.repeated.has_too_many.Goals as goal

pub returns-in-Some-clause-yes : goal.returns-in-Some-clause-yes
returns-in-Some-clause-yes c = λ h.
    let texts = some_texts c.args.name.now (rows_of (found_of c.args.given.now)) c.get_strs.result c.in-Some.texts
    (c.get_strs.ensures ∙ raw_values-rows (found_of c.args.given.now) c.args.name.now) c.in-Some.is in
    let same = sym (length-map c.in-Some.texts.now (λ text. text.now)) ∙ ap length texts in
    grind (arith, nat_tests, same, h)

pub returns-in-Some-clause-no : goal.returns-in-Some-clause-no
returns-in-Some-clause-no c = λ h.
    let texts = some_texts c.args.name.now (rows_of (found_of c.args.given.now)) c.get_strs.result c.in-Some.texts
    (c.get_strs.ensures ∙ raw_values-rows (found_of c.args.given.now) c.args.name.now) c.in-Some.is in
    let same = sym (length-map c.in-Some.texts.now (λ text. text.now)) ∙ ap length texts in
    grind (arith, nat_tests, same, h)

pub returns-in-None-clause-no : goal.returns-in-None-clause-no
returns-in-None-clause-no c = λ h.
    let none = ap length (no_texts c.args.name.now (rows_of (found_of c.args.given.now)) c.get_strs.result
    (c.get_strs.ensures ∙ raw_values-rows (found_of c.args.given.now) c.args.name.now) c.in-None.is) in
    omega (arith, none)
