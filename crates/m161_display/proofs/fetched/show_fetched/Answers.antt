use Rattle.std.proofs.Common.{◌≡◌, ◌∙◌, ◌+◌, ◌*◌, ◌++◌, ℕ, List, sym, ap, arith}
use Rattle.m161_display.specs.Shows.{numbered_lines, fetched_line, show_fetched_text}
use Rattle.m161_text.specs.Lines.{with_line_end, text_of}
use Rattle.m161_display.proofs.Shown.{counted_more}
use Rattle.m161_display.proofs.fetched.show_fetched.Goals as goal

pub loop-i-preserved : goal.loop-i-preserved
loop-i-preserved g c =
    let line : ℕ → List ℕ = λ i. fetched_line c.args.style.now c.args.p c.args.core.now.state (c.args.address + 4 * i) in
    c.in_ok-write_fetched.ensures ∙ ap (λ bs. bs ++ with_line_end (line c.loop-i.i)) c.loop-i.invariant ∙ sym (counted_more line c.loop-i.i)

pub returns : goal.returns
unfolding show_fetched_text
returns g c =
    let line : ℕ → List ℕ = λ i. fetched_line c.args.style.now c.args.p c.args.core.now.state (c.args.address + 4 * i) in
    let whole : c.loop-i.i ≡ c.args.n = omega arith in
    c.loop-i.invariant ∙ ap (λ n. text_of (numbered_lines n line)) whole
