use Rattle.m161_audit.proofs.WatchLines.{no_numbers, of_numbers, other_kind}
use Rattle.m161_audit.proofs.text.parse_watch.Goals as goal

pub returns-in_err-id-in-w : goal.returns-in_err-id-in-w
returns-in_err-id-in-w c = rw c.from_residual.ensures (no_numbers c.args.kind.now c.args.rest.now c.requires c.in_err-id-in-w.ensures)

pub returns-in_ok-id-in-w : goal.returns-in_ok-id-in-w
returns-in_ok-id-in-w c = of_numbers c.args.kind.now c.args.rest.now _ _ _ _ c.requires c.in-w.is c.in_ok-id-in-w.ensures

pub returns-in_default : goal.returns-in_default
returns-in_default c = other_kind c.args.kind.now c.args.rest.now c.requires c.in_default.not-w
