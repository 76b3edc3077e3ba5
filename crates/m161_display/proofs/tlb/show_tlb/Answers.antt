use Rattle.std.proofs.Common.{◌≡◌, ◌∙◌, ◌++◌, ℕ, List, sym, ap, arith}
use Rattle.m161_machine.specs.State.{processor_at}
use Rattle.m161_display.specs.Shows.{numbered_lines, row_line, show_tlb_text}
use Rattle.m161_text.specs.Lines.{with_line_end, text_of}
use Rattle.m161_display.proofs.Shown.{counted_more}
use Rattle.m161_display.proofs.tlb.show_tlb.Goals as goal

pub loop-i-preserved : goal.loop-i-preserved
loop-i-preserved g c =
    let line : ℕ → List ℕ = row_line (processor_at c.args.p c.args.core.now.state.processors).rows in
    c.in_ok-write_row_of.ensures ∙ ap (λ bs. bs ++ with_line_end (line c.loop-i.i)) c.loop-i.invariant ∙ sym (counted_more line c.loop-i.i)

pub returns : goal.returns
unfolding show_tlb_text
returns g c =
    let line : ℕ → List ℕ = row_line (processor_at c.args.p c.args.core.now.state.processors).rows in
    let whole : c.loop-i.i ≡ 64 = omega arith in
    c.loop-i.invariant ∙ ap (λ n. text_of (numbered_lines n line)) whole
