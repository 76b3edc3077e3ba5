use Rattle.std.proofs.Common.{subst, sym, ◌∙◌}
use Rattle.std.specs.Prelude.{All, List}
use Rattle.std.proofs.lemmas.Result.{IfOk-weaker}
use Rattle.m161_elf.specs.declared.symbol_table.Symbol.{Symbol}
use Rattle.m161_elf.specs.Symbols.{HasName}
use Rattle.m161_elf.proofs.Names.{listed_named}
use Rattle.m161_elf.proofs.symbol_table.table_symbols.Goals as goal

pub returns-then-are_named-clause-names : goal.returns-then-are_named-clause-names
returns-then-are_named-clause-names c =
    let file = c.args.file.now in
    let t = c.args.table.now in
    let named = listed_named file t c.requires (sym c.are_named.ensures ∙ c.if-are_named.true) in
    IfOk-weaker c.listed.result _ _
    (λ l e. subst (λ (xs : List Symbol). All (HasName file) xs) (sym e) named)
    c.listed.ensures
