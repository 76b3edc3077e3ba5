use Rattle.std.proofs.Common.{◌≡◌, ◌∙◌, ◌++◌, ℕ, List, ap, arith, string_bytes}
use Rattle.m161_machine.specs.State.{processor_at}
use Rattle.m161_trace.specs.Items.{each, row_item, row_items}
use Rattle.m161_trace.specs.Items.{Item}
use Rattle.m161_trace.specs.Line.{spaced}
use Rattle.m161_trace.proofs.Spaced.{each_more, grown, spaced_none}
use Rattle.m161_trace.proofs.processor.add_rows.Goals as goal

pub loop-i-init : goal.loop-i-init
loop-i-init g c = spaced_none _

pub loop-i-preserved : goal.loop-i-preserved
loop-i-preserved g c =
    let item : ℕ → List Item = row_item (processor_at c.args.p c.args.before.now.state.processors).rows (processor_at c.args.p c.args.after.now.state.processors).rows in
    grown _ _ _ _ _ _ (each_more 0 c.loop-i.i c.loop-i.i item (omega arith)) c.loop-i.invariant c.in_ok-add_row.ensures

pub returns : goal.returns
unfolding row_items
returns g c =
    let item : ℕ → List Item = row_item (processor_at c.args.p c.args.before.now.state.processors).rows (processor_at c.args.p c.args.after.now.state.processors).rows in
    let whole : c.loop-i.i ≡ 64 = omega arith in
    λ naming. c.loop-i.invariant naming ∙ ap (λ n. string_bytes c.args.text.now ++ spaced naming (each 0 n item)) whole
