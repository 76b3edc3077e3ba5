use Rattle.std.proofs.Common.{◌∙◌, ◌++◌, ◌<◌, ◌+◌, ◌-◌, ℕ, List, length, map, take, drop, sym, ap, arith}
use Rattle.std.proofs.lemmas.List.{length-drop, get_or-drop}
use Rattle.std.proofs.lemmas.Option.{get_or_from_slice_get}
use Rattle.m161_machine.specs.declared.event.Entry.{Entry}
use Rattle.m161_steplog.specs.Text.{entry_text}
use Rattle.m161_text.specs.Lines.{with_line_end, text_of}
use Rattle.m161_display.proofs.Shown.{mapped_more}
use Rattle.m161_debug.proofs.log.show_log.Goals as goal

pub loop-i-preserved : goal.loop-i-preserved
loop-i-preserved g c =
    let log : List Entry = c.args.machine.now.log in
    let first : ℕ = c.log_len-2.result - c.min-shown.result in
    let here = get_or-drop first log c.loop-i.i c.log_at.result ∙ get_or_from_slice_get log (first + c.loop-i.i) _ c.log_at.result c.log_at.ensures in
    let lt : c.loop-i.i < length (drop first log) = omega (arith, length-drop first log) in
    c.in_ok-write_entry.ensures ∙ ap (λ bs. bs ++ with_line_end (entry_text c.log_at.result)) c.loop-i.invariant
    ∙ ap (λ e. text_of (map entry_text (take c.loop-i.i (drop first log))) ++ with_line_end (entry_text e)) (sym here)
    ∙ sym (mapped_more entry_text (drop first log) c.loop-i.i c.log_at.result lt)
