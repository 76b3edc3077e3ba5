use Rattle.std.proofs.Common.{sym, rules}
use Rattle.m161_audit.proofs.shootdown.Shootdowns.note.Goals as goal

pub returns-else-may_be_watched : goal.returns-else-may_be_watched
returns-else-may_be_watched c = sym (c.may_be_watched.ensures (search rules))
