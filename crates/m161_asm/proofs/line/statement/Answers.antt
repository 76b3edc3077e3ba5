use Rattle.std.proofs.Common.{refl, ◌∙◌, arith}
use Rattle.m161_asm.proofs.Listed.{none_seen, some_seen}
use Rattle.m161_asm.proofs.Readers.{statement_none, unknown_line}
use Rattle.m161_asm.proofs.line.statement.Goals as goal

pub returns-then-ts-eq0 : goal.returns-then-ts-eq0
returns-then-ts-eq0 c =
    rw (none_seen _ c.if-ts-eq0.true) (statement_none c.args.past _ refl)

pub returns-in-None-name_at : goal.returns-in-None-name_at
returns-in-None-name_at c =
    unknown_line c.args.past _ (some_seen _ (omega (arith, c.if-ts-eq0.false)))
    c.in-None.ensures c.in-None-name_at.ensures
    ∙ rw (c.unknown.ensures.kind, c.unknown.ensures.column, c.next_column-column.ensures) refl
