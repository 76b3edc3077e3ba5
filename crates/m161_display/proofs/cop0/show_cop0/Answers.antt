use Rattle.std.proofs.Common.{◌≡◌, ◌∙◌, ◌++◌, ℕ, List, map, take, sym, ap, arith}
use Rattle.std.proofs.lemmas.Option.{get_or_from_slice_get}
use Rattle.m161_cop0.specs.Registers.{all_registers}
use Rattle.m161_cop0.specs.declared.register.Register.{Register}
use Rattle.m161_cop0.specs.declared.register.Register.TheVariants as registers
use Rattle.m161_display.specs.Shows.{cop0_line, show_cop0_text}
use Rattle.m161_text.specs.Lines.{with_line_end, text_of}
use Rattle.m161_display.proofs.Shown.{mapped_more}
use Rattle.m161_display.proofs.cop0.show_cop0.Goals as goal

pub loop-i-preserved : goal.loop-i-preserved
loop-i-preserved g c =
    let line : Register → List ℕ = cop0_line c.args.p c.args.core.now.state in
    let here = get_or_from_slice_get all_registers c.loop-i.i _ registers.Index c.register.ensures in
    c.in_ok-write_register.ensures ∙ ap (λ bs. bs ++ with_line_end (line c.register.result)) c.loop-i.invariant
    ∙ ap (λ r. text_of (map line (take c.loop-i.i all_registers)) ++ with_line_end (line r)) (sym here)
    ∙ sym (mapped_more line all_registers c.loop-i.i registers.Index (omega arith))

pub returns : goal.returns
unfolding show_cop0_text
returns g c =
    let line : Register → List ℕ = cop0_line c.args.p c.args.core.now.state in
    let whole : c.loop-i.i ≡ 12 = omega arith in
    c.loop-i.invariant ∙ ap (λ n. text_of (map line (take n all_registers))) whole
