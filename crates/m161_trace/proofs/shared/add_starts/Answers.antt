use Rattle.std.proofs.Common.{◌≡◌, ◌∙◌, ◌++◌, ℕ, List, ap, arith, string_bytes}
use Rattle.m161_trace.specs.Items.{each, start_item, start_items}
use Rattle.m161_trace.specs.Items.{Item}
use Rattle.m161_trace.specs.Line.{spaced}
use Rattle.m161_trace.proofs.Spaced.{each_more, grown, spaced_none}
use Rattle.m161_trace.proofs.shared.add_starts.Goals as goal

pub loop-q-init : goal.loop-q-init
loop-q-init c = spaced_none _

pub loop-q-preserved : goal.loop-q-preserved
loop-q-preserved c =
    let item : ℕ → List Item = start_item c.args.before c.args.after in
    grown _ _ _ _ _ _ (each_more 0 c.loop-q.q c.loop-q.q item (omega arith)) c.loop-q.invariant c.in_ok-add_start.ensures

pub returns : goal.returns
unfolding start_items
returns c =
    let item : ℕ → List Item = start_item c.args.before c.args.after in
    let whole : c.loop-q.q ≡ c.args.n = omega arith in
    λ naming. c.loop-q.invariant naming ∙ ap (λ n. string_bytes c.args.text.now ++ spaced naming (each 0 n item)) whole
