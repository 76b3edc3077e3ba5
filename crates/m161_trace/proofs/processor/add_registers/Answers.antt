use Rattle.std.proofs.Common.{◌≡◌, ◌∙◌, ◌-◌, ◌++◌, ℕ, List, ap, arith, string_bytes}
use Rattle.m161_machine.specs.State.{processor_at}
use Rattle.m161_trace.specs.Items.{each, register_item, register_items}
use Rattle.m161_trace.specs.Items.{Item}
use Rattle.m161_trace.specs.Line.{spaced}
use Rattle.m161_trace.proofs.Spaced.{each_next, grown_in, spaced_none}
use Rattle.m161_trace.proofs.processor.add_registers.Goals as goal

pub loop-r-init : goal.loop-r-init
loop-r-init g c = spaced_none _ _

pub loop-r-preserved : goal.loop-r-preserved
loop-r-preserved g c =
    let item : ℕ → List Item = register_item (processor_at c.args.p c.args.before.now.state.processors) (processor_at c.args.p c.args.after.now.state.processors) in
    grown_in c.args.style.now _ _ _ _ _ _ (each_next 1 c.loop-r.r item (omega arith)) c.loop-r.invariant c.in_ok-add_register.ensures

pub returns : goal.returns
unfolding register_items
returns g c =
    let item : ℕ → List Item = register_item (processor_at c.args.p c.args.before.now.state.processors) (processor_at c.args.p c.args.after.now.state.processors) in
    let whole : c.loop-r.r ≡ 32 = omega arith in
    c.loop-r.invariant ∙ ap (λ n. string_bytes c.args.text.now ++ spaced c.args.style.now (each 1 (n - 1) item)) whole
