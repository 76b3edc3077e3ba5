use Rattle.std.proofs.Common.{[]}
use Rattle.s161_search.proofs.start.make_first.Goals as goal

pub returns-clause-ok : goal.returns-clause-ok
returns-clause-ok c =
    let made = c.in_ok-stop.ensures in
    record { stop = c.in_ok-stop.stop; entries = made.0; makes = made.1; accepted = c.in_default.not-Refused; events_are = made.2 0 [] c.requires }
