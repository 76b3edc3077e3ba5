use Rattle.std.proofs.Common.{◌≡◌, ◌∙◌, ◌∷◌, ◌++◌, sym, ap, arith}
use Rattle.m161_machine.specs.State.{processor_at}
use Rattle.m161_display.specs.Shows.{numbered_lines, hi_lo_line, place_line, registers_line, show_regs_text}
use Rattle.m161_text.specs.Lines.{with_line_end, text_of}
use Rattle.m161_display.proofs.Shown.{counted_more_after, text_of_more}
use Rattle.m161_display.proofs.regs.show_regs.Goals as goal

pub loop-i-preserved : goal.loop-i-preserved
loop-i-preserved g c =
    let cpu = processor_at c.args.p c.args.core.now.state.processors in
    c.in_ok-write_registers.ensures ∙ ap (λ bs. bs ++ with_line_end (registers_line cpu c.loop-i.i)) c.loop-i.invariant
    ∙ sym (counted_more_after (place_line c.args.p cpu) (registers_line cpu) c.loop-i.i)

pub returns : goal.returns
unfolding show_regs_text
returns g c =
    let cpu = processor_at c.args.p c.args.core.now.state.processors in
    let first = place_line c.args.p cpu in
    let whole : c.loop-i.i ≡ 8 = omega arith in
    let so_far = c.loop-i.invariant ∙ ap (λ n. text_of (first ∷ numbered_lines n (registers_line cpu))) whole in
    c.in_ok-write_hi_lo.ensures ∙ ap (λ bs. bs ++ with_line_end (hi_lo_line cpu)) so_far
    ∙ sym (text_of_more (first ∷ numbered_lines 8 (registers_line cpu)) (hi_lo_line cpu))
