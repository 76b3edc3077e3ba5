use Rattle.m161_debug.proofs.Asked.{no_register, no_row, no_word_of_memory}
use Rattle.m161_debug.proofs.command.condition_with.Goals as goal

pub returns-in_err-place-in-m : goal.returns-in_err-place-in-m
returns-in_err-place-in-m c = rw c.from_residual.ensures (no_word_of_memory c.args.symbols.now c.args.word.now c.args.arguments.now c.in-m.is c.in_err-place-in-m.ensures)

pub returns-in_err-p-in-r : goal.returns-in_err-p-in-r
returns-in_err-p-in-r c = rw c.from_residual-in_err-p-in-r.ensures (no_register c.args.symbols.now c.args.word.now c.args.arguments.now c.in-r.is c.in_err-p-in-r.ensures)

pub returns-in_err-p-in-i : goal.returns-in_err-p-in-i
returns-in_err-p-in-i c = rw c.from_residual-in_err-p-in-i.ensures (no_row c.args.symbols.now c.args.word.now c.args.arguments.now c.in-i.is c.in_err-p-in-i.ensures)
