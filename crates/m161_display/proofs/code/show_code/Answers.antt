use Rattle.std.proofs.Common.{◌≡◌, ◌∙◌, ◌+◌, ◌*◌, ◌++◌, ℕ, List, length, sym, ap, arith}
use Rattle.m161_display.specs.Shows.{numbered_lines, code_line, show_code_text}
use Rattle.m161_text.specs.Lines.{with_line_end, text_of}
use Rattle.m161_display.proofs.Places.{in_ram_at}
use Rattle.m161_display.proofs.Shown.{counted_more}
use Rattle.m161_display.proofs.code.show_code.Goals as goal

pub loop-i-preserved : goal.loop-i-preserved
loop-i-preserved g c =
    let line : ℕ → List ℕ = λ i. code_line c.args.style.now c.args.core.now.state.memory (c.args.address + 4 * i) in
    c.in_ok-write_code_at.ensures ∙ ap (λ bs. bs ++ with_line_end (line c.loop-i.i)) c.loop-i.invariant ∙ sym (counted_more line c.loop-i.i)

pub write_code_at-requires-clause-inside : goal.write_code_at-requires-clause-inside
write_code_at-requires-clause-inside g c = in_ram_at (length c.args.core.now.state.memory) c.args.address c.args.n c.loop-i.i c.requires.inside (omega arith)

pub returns : goal.returns
unfolding show_code_text
returns g c =
    let line : ℕ → List ℕ = λ i. code_line c.args.style.now c.args.core.now.state.memory (c.args.address + 4 * i) in
    let whole : c.loop-i.i ≡ c.args.n = omega arith in
    c.loop-i.invariant ∙ ap (λ n. text_of (numbered_lines n line)) whole
