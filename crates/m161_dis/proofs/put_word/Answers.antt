use Rattle.std.proofs.Common.{sym, ◌++◌, ◌∙◌, ap, append_assoc}
use Rattle.std.specs.Prelude.{string_bytes, codes}
use Rattle.m161_dis.specs.Canon.{hex_number}
use Rattle.m161_dis.proofs.put_word.Goals as goal

pub returns-in-None-clause-bytes : goal.returns-in-None-clause-bytes
returns-in-None-clause-bytes c =
    rw (sym c.row_if_canonical.ensures ∙ c.in-None.is) (c.put_hex_number.ensures.bytes
    ∙ ap (λ bytes. bytes ++ hex_number 8 c.args.word) c.put-in-None.ensures.bytes
    ∙ append_assoc (string_bytes c.args.text.now) (codes ".word ") (hex_number 8 c.args.word))
