use Rattle.std.proofs.Common.{◌∙◌, sym}
use Rattle.m161_machine.proofs.Booted.{boots_state}
use Rattle.m161_machine.proofs.state.Core.boot.Goals as goal

pub returns : goal.returns
returns g c =
    boots_state c.args.file.now c.args.conf c.in_ok-entry.field-0 c.in_ok-core.core (sym c.is_within_limits.ensures ∙ c.if-not-is_within_limits.false) c.in_ok-entry.ensures.answer (c.in_ok-core.ensures)
