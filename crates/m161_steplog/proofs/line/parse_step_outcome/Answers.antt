use Rattle.m161_steplog.proofs.LogLines.{no_word, no_outcome, no_trap, trap, no_conflict, conflict}
use Rattle.m161_steplog.proofs.line.parse_step_outcome.Goals as goal

pub returns-in_err-kind-in_default : goal.returns-in_err-kind-in_default
returns-in_err-kind-in_default c = rw c.from_residual.ensures (no_word c.args.text.now c.in_err-kind-in_default.ensures c.in_default.not-ran c.in_default.not-idle c.in_default.not-off)

pub returns-in_err-code-in-trap : goal.returns-in_err-code-in-trap
returns-in_err-code-in-trap c = rw c.from_residual-in_err-code-in-trap.ensures (no_trap _ _ c.args.text.now c.in_ok-kind-in_default.ensures c.in-trap.is c.in_err-code-in-trap.ensures)

pub returns-in_ok-code-in-trap : goal.returns-in_ok-code-in-trap
returns-in_ok-code-in-trap c = trap _ _ c.args.text.now _ _ c.in_ok-kind-in_default.ensures c.in-trap.is c.in_ok-code-in-trap.ensures

pub returns-in_err-row-in-conflict : goal.returns-in_err-row-in-conflict
returns-in_err-row-in-conflict c = rw c.from_residual-in_err-row-in-conflict.ensures (no_conflict _ _ c.args.text.now c.in_ok-kind-in_default.ensures c.in-conflict.is c.in_err-row-in-conflict.ensures)

pub returns-in_ok-row-in-conflict : goal.returns-in_ok-row-in-conflict
returns-in_ok-row-in-conflict c = conflict _ _ c.args.text.now _ _ c.in_ok-kind-in_default.ensures c.in-conflict.is c.in_ok-row-in-conflict.ensures

pub returns-in_default-kind : goal.returns-in_default-kind
returns-in_default-kind c = no_outcome _ _ c.args.text.now c.in_ok-kind-in_default.ensures c.in_default-kind.not-trap c.in_default-kind.not-conflict
