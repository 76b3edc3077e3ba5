use Rattle.std.proofs.Common.{◌∙◌, sym}
use Rattle.s161_base.proofs.Putting.{puts_less, puts_same, puts_then}
use Rattle.s161_base.proofs.Words.{is_none, is_some_of, none_quoted, some_quoted}
use Rattle.s161_base.proofs.report.put_quoted.Goals as goal

pub returns-then-is_empty : goal.returns-then-is_empty
returns-then-is_empty g c =
    let cs = c.args.characters.now in
    puts_same _ _ _ _ _ (sym (none_quoted cs (is_none cs (sym c.is_empty.ensures ∙ c.if-is_empty.true)))) c.put.ensures

pub returns-in_err-put : goal.returns-in_err-put
returns-in_err-put g c =
    let cs = c.args.characters.now in
    puts_same _ _ _ _ _ (some_quoted cs (is_some_of cs (sym c.is_empty.ensures ∙ c.if-is_empty.false)))
    (puts_less _ _ _ _ _ _ c.in_err-put.ensures c.from_residual.ensures.1)

pub returns-in_err-put_characters : goal.returns-in_err-put_characters
returns-in_err-put_characters g c =
    let cs = c.args.characters.now in
    puts_same _ _ _ _ _ (some_quoted cs (is_some_of cs (sym c.is_empty.ensures ∙ c.if-is_empty.false)))
    (puts_then _ _ _ _ _ _ c.in_ok-put.ensures
    (puts_less _ _ _ _ _ _ c.in_err-put_characters.ensures c.from_residual-in_err-put_characters.ensures.1))

pub returns : goal.returns
returns g c =
    let cs = c.args.characters.now in
    puts_same _ _ _ _ _ (some_quoted cs (is_some_of cs (sym c.is_empty.ensures ∙ c.if-is_empty.false)))
    (puts_then _ _ _ _ _ _ c.in_ok-put.ensures
    (puts_then _ _ _ _ _ _ c.in_ok-put_characters.ensures c.put-3.ensures))
