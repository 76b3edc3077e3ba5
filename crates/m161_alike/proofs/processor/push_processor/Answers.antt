use Rattle.std.proofs.Common.{◌∙◌, ◌++◌, ap}
use Rattle.m161_machine.specs.State.{processor_at}
use Rattle.m161_alike.specs.View.{processor_view}
use Rattle.m161_alike.specs.Words.{control_words, place_words, register_words, rows_words}
use Rattle.m161_alike.proofs.Written.{joined}
use Rattle.m161_alike.proofs.processor.push_processor.Goals as goal

pub returns-clause-ok : goal.returns-clause-ok
returns-clause-ok g c =
    let p = processor_view c.args.known (processor_at c.args.p c.args.core.now.state.processors) in
    let before = c.args.out.now.items in
    let first = c.extend_from_slice.new.self.items in
    let second = c.push_place.new.out.items in
    let third = c.push_control.new.out.items in
    let all = c.extend_from_slice-2.new.self.items in
    joined before first all (register_words p) (place_words p ++ (control_words p.control ++ rows_words p))
    (c.in_ok-extend_from_slice.ensures.items ∙ ap (λ l. before ++ l) c.registers.ensures)
    (joined first second all (place_words p) (control_words p.control ++ rows_words p) c.in_ok-push_place.ensures.ok
    (joined second third all (control_words p.control) (rows_words p) c.in_ok-push_control.ensures.ok
    (c.in_ok-extend_from_slice-2.ensures.items ∙ ap (λ l. third ++ l) c.rows.ensures)))
