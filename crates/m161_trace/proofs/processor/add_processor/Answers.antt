use Rattle.m161_trace.proofs.Spaced.{both_in, both_in_ok}
use Rattle.m161_trace.proofs.processor.add_processor.Goals as goal

pub returns : goal.returns
returns g c =
    both_in_ok _ c.args.style.now _ _ _ _ _
    (both_in c.args.style.now _ _ _ _ _ (both_in c.args.style.now _ _ _ _ _ (both_in c.args.style.now _ _ _ _ _ (c.in_ok-add_state_of.ensures c.args.style.now) c.in_ok-add_registers.ensures) (c.in_ok-add_hi_lo.ensures c.args.style.now)) (c.in_ok-add_controls.ensures c.args.style.now)) c.add_rows_if.ensures
