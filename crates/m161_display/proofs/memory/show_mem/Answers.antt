use Rattle.std.proofs.Common.{◌∙◌, ◌+◌, ◌*◌, ◌++◌, ℕ, List, sym, ap}
use Rattle.m161_display.specs.Shows.{memory_line}
use Rattle.m161_text.specs.Lines.{with_line_end}
use Rattle.m161_display.proofs.Shown.{counted_more}
use Rattle.m161_display.proofs.memory.show_mem.Goals as goal

pub loop-i-preserved : goal.loop-i-preserved
loop-i-preserved g c =
    let line : ℕ → List ℕ = λ i. memory_line c.args.core.now.state.memory (c.args.address + 4 * i) in
    c.in_ok-write_word.ensures ∙ ap (λ bs. bs ++ with_line_end (line c.loop-i.i)) c.loop-i.invariant ∙ sym (counted_more line c.loop-i.i)
