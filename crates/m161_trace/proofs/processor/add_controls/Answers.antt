use Rattle.std.proofs.Common.{◌≡◌, ◌∙◌, ◌++◌, List, ap, take, arith, string_bytes}
use Rattle.std.specs.Prelude.{flat_map}
use Rattle.std.proofs.lemmas.Option.{get_or_from_slice_get}
use Rattle.m161_cop0.specs.declared.register.Register.{Register}
use Rattle.m161_cop0.specs.declared.register.Register.TheVariants as registers
use Rattle.m161_trace.specs.Items.{Item, control_item, control_items, shown_registers}
use Rattle.m161_trace.specs.Line.{spaced}
use Rattle.m161_trace.proofs.Spaced.{grown, listed_more, spaced_none}
use Rattle.m161_trace.proofs.processor.add_controls.Goals as goal

pub loop-i-init : goal.loop-i-init
loop-i-init g c = spaced_none _

pub loop-i-preserved : goal.loop-i-preserved
loop-i-preserved g c =
    let item : Register → List Item = control_item c.args.p c.args.before.now.state c.args.after.now.state in
    let here = get_or_from_slice_get shown_registers c.loop-i.i _ registers.Index c.shown.ensures in
    grown _ _ _ _ _ _
    (listed_more item shown_registers c.loop-i.i registers.Index (omega arith) ∙ ap (λ r. flat_map item (take c.loop-i.i shown_registers) ++ item r) here)
    c.loop-i.invariant c.in_ok-add_control.ensures

pub returns : goal.returns
unfolding control_items
returns g c =
    let item : Register → List Item = control_item c.args.p c.args.before.now.state c.args.after.now.state in
    let whole : c.loop-i.i ≡ 9 = omega arith in
    λ naming. c.loop-i.invariant naming ∙ ap (λ n. string_bytes c.args.text.now ++ spaced naming (flat_map item (take n shown_registers))) whole
