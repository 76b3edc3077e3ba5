use Rattle.std.proofs.Common.{◌++◌, sym, ap, ◌∙◌, append_assoc, rules}
use Rattle.std.proofs.Output.{has_written_append}
use Rattle.std.specs.Str.Iter.{chars_rest}
use Rattle.s161_base.specs.helpers.FaultLines.{shown_char}
use Rattle.s161_base.proofs.Named.{name_shown}
use Rattle.s161_base.proofs.line.NameDisplay.fmt.Goals as goal

pub loop-c-preserved : goal.loop-c-preserved
loop-c-preserved g c =
    λ plain.
    let now = c.loop-c.invariant plain in
    let ch = c.in-Some.c in (
      now.0 ++ shown_char ch,
      has_written_append _ _ _ _ _ _ now.1 (search rules),
      append_assoc now.0 (shown_char ch) _
          ∙ ap (λ l. now.0 ++ l) (sym (name_shown ch (chars_rest c.loop-c.rest) (chars_rest c.next.new.self) c.in-Some.ensures.steps.0)) ∙ now.2,
    )
