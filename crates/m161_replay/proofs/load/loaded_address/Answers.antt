use Rattle.std.proofs.Common.{◌∙◌, rules, sym}
use Rattle.m161_bus.specs.Board.{interrupt_lines}
use Rattle.m161_machine.specs.State.{processor_at}
use Rattle.m161_replay.proofs.Loading.{no_use, status_read, word_accesses, word_loads}
use Rattle.m161_replay.proofs.load.loaded_address.Goals as goal

pub returns-then-is_unusable : goal.returns-then-is_unusable
returns-then-is_unusable g c =
    let s = c.args.core.now.state in
    let control = (processor_at c.args.p s.processors).control in
    no_use c.args.p s c.args.word c.requires.word
    (sym (c.is_unusable.ensures control (sym (c.cop-status.ensures ∙ status_read (interrupt_lines c.args.p s.board) control))) ∙ search rules)

pub loads_by-requires-clause-via : goal.loads_by-requires-clause-via
loads_by-requires-clause-via g c =
    let s = c.args.core.now.state in
    let control = (processor_at c.args.p s.processors).control in
    word_accesses c.args.p s c.args.word c.args.via c.requires.word
    (sym (c.is_unusable.ensures control (sym (c.cop-status.ensures ∙ status_read (interrupt_lines c.args.p s.board) control))) ∙ search rules) c.requires.via

pub returns : goal.returns
returns g c =
    let s = c.args.core.now.state in
    let control = (processor_at c.args.p s.processors).control in
    word_loads c.args.p s c.args.word c.loads_by.result c.requires.word
    (sym (c.is_unusable.ensures control (sym (c.cop-status.ensures ∙ status_read (interrupt_lines c.args.p s.board) control))) ∙ search rules)
    c.loads_by.ensures
