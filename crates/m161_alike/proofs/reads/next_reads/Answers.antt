use Rattle.std.proofs.Common.{◌∙◌, sym, ap, rules}
use Rattle.m161_bus.specs.Board.{interrupt_lines}
use Rattle.m161_cpu.specs.Fetch.{fetched_word}
use Rattle.m161_machine.specs.State.{processor_at}
use Rattle.m161_alike.proofs.Decoded.{no_fetch_in, no_word_in, status_read, word_read_in}
use Rattle.m161_alike.proofs.reads.next_reads.Goals as goal

pub returns-then-not-fetches : goal.returns-then-not-fetches
returns-then-not-fetches g c = no_fetch_in c.args.p c.args.core.now.state (sym c.fetches.ensures ∙ search rules)

pub returns-in-Some : goal.returns-in-Some
returns-in-Some g c =
    let s = c.args.core.now.state in
    let control = (processor_at c.args.p s.processors).control in
    word_read_in c.args.p s c.in-Some.word c.reads_of_word.result (sym c.fetches.ensures ∙ search rules)
    (ap (λ at. fetched_word s.memory at (processor_at c.args.p s.processors)) (sym c.pc.ensures) ∙ sym c.fetched_word.ensures ∙ c.in-Some.is)
    (c.reads_of_word.ensures control (sym (c.cop.ensures ∙ status_read (interrupt_lines c.args.p s.board) control)))

pub returns-in-None : goal.returns-in-None
returns-in-None g c =
    let s = c.args.core.now.state in
    no_word_in c.args.p s (sym c.fetches.ensures ∙ search rules)
    (ap (λ at. fetched_word s.memory at (processor_at c.args.p s.processors)) (sym c.pc.ensures) ∙ sym c.fetched_word.ensures ∙ c.in-None.is)
