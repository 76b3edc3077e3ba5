use Rattle.std.proofs.Common.{ap}
use Rattle.m161_machine.specs.History.{History}
use Rattle.s161_run.specs.Driven.{rules_of}
use Rattle.s161_texts.proofs.Finishing.{behind_finds}
use Rattle.s161_texts.proofs.driven.shared_in_drive.Goals as goal

pub returns-in-Ok-clause-ok : goal.returns-in-Ok-clause-ok
returns-in-Ok-clause-ok c =
    let rules = rules_of c.args.options c.args.read.now.keys.items in
    let found = behind_finds _ _ c.in_ok-copy.copy.state c.args.machine.now.state c.in_ok-lines.lines c.in_ok-lines.ensures rules c.args.options.events
    c.args.read.now.first.events c.in-Ok.field-0 c.trace_behind.new.machine.state _ _ c.trace_behind.new.lines c.args.words c.args.from c.args.count c.none-filter.ensures.0
    c.none-filter.ensures.1 c.in_ok-new.ensures c.in-Ok.ensures.ok (ap (λ (m : History). m.state) c.in_ok-copy.ensures) in
    rw c.into_noted.ensures found
