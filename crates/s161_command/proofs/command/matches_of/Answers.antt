use Rattle.std.proofs.Common.{rules}
use Rattle.s161_command.proofs.Accepting.{accepted, given_so, of_kind, rejected}
use Rattle.s161_command.proofs.command.matches_of.Goals as goal

pub returns-in_err-matches-clause-rejected : goal.returns-in_err-matches-clause-rejected
returns-in_err-matches-clause-rejected g c =
    let rejected = rejected _ _ c.in_err-matches.field-0.0 c.in_ok-command.ensures c.in_err-matches.ensures.kinds in
    search (rules, rejected)

pub returns-in_err-matches-clause-kind : goal.returns-in_err-matches-clause-kind
returns-in_err-matches-clause-kind g c =
    let kind = of_kind _ _ c.in_err-matches.field-0.0 c.in_ok-command.ensures c.in_err-matches.ensures.kinds in
    search (rules, kind)

pub returns-clause-accepted : goal.returns-clause-accepted
returns-clause-accepted g c = accepted _ _ c.in_ok-command.ensures c.in_ok-matches.ensures.kinds

pub returns-clause-given : goal.returns-clause-given
returns-clause-given g c = given_so _ _ c.in_ok-matches.matches c.in_ok-command.ensures c.in_ok-matches.ensures.matches
