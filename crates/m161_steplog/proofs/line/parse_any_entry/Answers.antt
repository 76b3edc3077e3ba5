use Rattle.m161_steplog.proofs.LogLines.{no_space, no_kind, no_step, step}
use Rattle.m161_steplog.proofs.line.parse_any_entry.Goals as goal

pub returns-in_err-kind : goal.returns-in_err-kind
returns-in_err-kind c = rw c.from_residual.ensures (no_space c.args.line.now c.in_err-kind.ensures)

pub returns-in_err-p-in-s : goal.returns-in_err-p-in-s
returns-in_err-p-in-s c = rw c.from_residual-in_err-p-in-s.ensures (no_step _ _ c.args.line.now c.in_ok-kind.ensures c.in-s.is c.in_err-p-in-s.ensures)

pub returns-in_ok-p-in-s : goal.returns-in_ok-p-in-s
returns-in_ok-p-in-s c = step _ _ c.args.line.now _ _ c.in_ok-kind.ensures c.in-s.is c.in_ok-p-in-s.ensures

pub returns-in_default : goal.returns-in_default
returns-in_default c = no_kind _ _ c.args.line.now c.in_ok-kind.ensures c.in_default.not-s c.in_default.not-k (λ o. absurd (c.in_default.not-o o))
