use Rattle.std.proofs.Common.{◌∙◌, sym, arith}
use Rattle.m161_machine.specs.State.{processor_at}
use Rattle.m161_replay.proofs.Seeing.{no_row_found, row_found, row_passed}
use Rattle.m161_replay.proofs.views.lowest_row.Goals as goal

pub returns-then-matches : goal.returns-then-matches
returns-then-matches g c =
    row_found (processor_at c.args.p c.args.core.now.state.processors).rows c.args.page c.args.id c.loop-i.i c.row-row.result (grind arith) c.loop-i.invariant c.row-row.ensures
    (sym c.matches.ensures ∙ c.if-matches.true)

pub loop-i-preserved : goal.loop-i-preserved
loop-i-preserved g c =
    row_passed (processor_at c.args.p c.args.core.now.state.processors).rows c.args.page c.args.id c.loop-i.i c.row-row.result c.loop-i.invariant c.row-row.ensures
    (sym c.matches.ensures ∙ c.if-matches.false)

pub returns : goal.returns
returns g c =
    no_row_found (processor_at c.args.p c.args.core.now.state.processors).rows c.args.page c.args.id
    (λ k lt. c.loop-i.invariant k (omega (arith, lt)))
