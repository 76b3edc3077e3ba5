use Rattle.std.proofs.Common.{◌≡◌, ◌∙◌, ◌++◌, ap, flat_map, length, sym, arith}
use Rattle.std.specs.List.{range_with_len}
use Rattle.m161_display.specs.Shows.{show_where_text, where_text}
use Rattle.m161_display.proofs.Shown.{each_more}
use Rattle.m161_display.proofs.started.show_where.Goals as goal

pub loop-p-preserved : goal.loop-p-preserved
loop-p-preserved g c =
    let s = c.args.core.now.state in
    c.in_ok-write_if_started.ensures ∙ ap (λ text. text ++ where_text c.args.style.now s c.loop-p.p) c.loop-p.invariant
    ∙ sym (each_more (where_text c.args.style.now s) c.loop-p.p)

pub returns : goal.returns
unfolding show_where_text
returns g c =
    let s = c.args.core.now.state in
    let whole : c.loop-p.p ≡ length s.processors = omega arith in
    c.loop-p.invariant ∙ ap (λ n. flat_map (where_text c.args.style.now s) (range_with_len 0 n)) whole
