use Rattle.std.proofs.Common.{rules}
use Rattle.m161_elf.proofs.symbol_table.listed.Goals as goal
use Rattle.m161_elf.proofs.symbol_table.listed.Goals.{in-Some+in_ok-push, in_default}
use Rattle.m161_elf.proofs.Listed.{listed_with, listed_without}

pub loop-i-preserved : goal.loop-i-preserved
loop-i-preserved c =
    let file = c.args.file.now in
    let t = c.args.table.now in
    let i = c.loop-i.i in
    elim c.match-listed_symbol.branch [
      | in-Some+in_ok-push w ↦
          rw (
            w.listed-is,
            listed_with file t i w.in-Some.symbol w.in-Some.ensures,
            ← c.loop-i.invariant,
          ) (search rules)
      | in_default w ↦
          rw (w.listed-is, listed_without file t i w.in_default.ensures) c.loop-i.invariant
    ]
