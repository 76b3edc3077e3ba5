use Rattle.std.specs.Prelude.{bytes_eq, Bool, find}
use Rattle.std.proofs.Common.{ap, sym, ◌∙◌, arith}
use Rattle.m161_isa.specs.declared.table.Row.{Row}
use Rattle.m161_isa.specs.Table.{table}
use Rattle.m161_asm.proofs.Places.{find_past}
use Rattle.m161_asm.proofs.parse.+row_among.Goals as goal

pub returns : goal.returns
returns t c =
    let test : Row → Bool = λ r. bytes_eq c.args.name.now (table r).name in
    let past = find_past test c.args.rows.now _ (omega (arith, c.if-rows-eq0.false))
    (sym c.is_named.ensures ∙ c.if-is_named.false) in
    c.row_among.ensures ∙ ap (find test) c.behind.ensures ∙ sym past
