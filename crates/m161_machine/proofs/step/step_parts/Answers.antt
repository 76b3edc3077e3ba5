use Rattle.std.proofs.Common.{◌∙◌, ap, sym, length}
use Rattle.std.proofs.lemmas.List.{length-set}
use Rattle.m161_bus.specs.Board.{BoardState, BoardValue}
use Rattle.m161_machine.proofs.Starting.{apart_started, counts_started, no_starts, same_length}
use Rattle.m161_machine.proofs.step.step_parts.Goals as goal

pub returns-then-start_new-clause-counts : goal.returns-then-start_new-clause-counts
returns-then-start_new-clause-counts g c = λ n h.
    counts_started n c.args.started.now c.step.new.board.state c.args.processors.now.items _ c.args.p c.index_mut.result.now c.step.new.self c.start_new.ensures.processors h
    c.requires.processor c.index_mut.ensures.value c.step.ensures.counted

pub returns-then-start_new-clause-number : goal.returns-then-start_new-clause-number
returns-then-start_new-clause-number g c =
    ap length c.start_new.ensures.processors ∙ same_length c.args.started.now c.step.new.board.state 0 _ ∙ length-set c.args.processors.now.items c.args.p c.step.new.self

pub returns-then-start_new-clause-apart : goal.returns-then-start_new-clause-apart
returns-then-start_new-clause-apart g c = λ strict h.
    apart_started c.args.started.now c.step.new.board.state c.args.processors.now.items _ c.args.p c.index_mut.result.now c.step.new.self c.start_new.ensures.processors h
    c.requires.processor c.index_mut.ensures.value (c.step.ensures.apart strict)

pub returns-else-start_new-clause-counts : goal.returns-else-start_new-clause-counts
returns-else-start_new-clause-counts g c = λ n h.
    counts_started n c.args.started.now c.step.new.board.state c.args.processors.now.items _ c.args.p c.index_mut.result.now c.step.new.self c.start_new.ensures.processors h
    c.requires.processor c.index_mut.ensures.value c.step.ensures.counted

pub returns-else-start_new-clause-number : goal.returns-else-start_new-clause-number
returns-else-start_new-clause-number g c =
    ap length c.start_new.ensures.processors ∙ same_length c.args.started.now c.step.new.board.state 0 _ ∙ length-set c.args.processors.now.items c.args.p c.step.new.self

pub returns-else-start_new-clause-apart : goal.returns-else-start_new-clause-apart
returns-else-start_new-clause-apart g c = λ strict h.
    apart_started c.args.started.now c.step.new.board.state c.args.processors.now.items _ c.args.p c.index_mut.result.now c.step.new.self c.start_new.ensures.processors h
    c.requires.processor c.index_mut.ensures.value (c.step.ensures.apart strict)

-- nothing was noted, so the Step left the board as it was, and there is none to start
pub returns-else-start_new-clause-quiet : goal.returns-else-start_new-clause-quiet
returns-else-start_new-clause-quiet g c = λ quiet.
    let same = c.step.ensures.board.2 (sym c.start_new.ensures.changed ∙ c.if-start_new.false) in (
      ap (λ (b : BoardValue). b.state) c.start_new.ensures.board ∙ same.0,
      (
        c.step.new.self,
        c.start_new.ensures.processors
            ∙ no_starts c.args.started.now c.step.new.board.state 0 _ (ap (λ (b : BoardState). b.started) same.0 ∙ sym c.requires.started),
      ),
    )

pub returns-in_default-clause-counts : goal.returns-in_default-clause-counts
returns-in_default-clause-counts g c = λ n h.
    counts_started n c.args.started.now c.step.new.board.state c.args.processors.now.items _ c.args.p c.index_mut.result.now c.step.new.self c.start_new-changed.ensures.processors h
    c.requires.processor c.index_mut.ensures.value c.step.ensures.counted

pub returns-in_default-clause-number : goal.returns-in_default-clause-number
returns-in_default-clause-number g c =
    ap length c.start_new-changed.ensures.processors ∙ same_length c.args.started.now c.step.new.board.state 0 _ ∙ length-set c.args.processors.now.items c.args.p c.step.new.self

pub returns-in_default-clause-apart : goal.returns-in_default-clause-apart
returns-in_default-clause-apart g c = λ strict h.
    apart_started c.args.started.now c.step.new.board.state c.args.processors.now.items _ c.args.p c.index_mut.result.now c.step.new.self c.start_new-changed.ensures.processors h
    c.requires.processor c.index_mut.ensures.value (c.step.ensures.apart strict)
