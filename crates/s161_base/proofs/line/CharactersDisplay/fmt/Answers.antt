use Rattle.std.proofs.Common.{◌++◌, ◌-◌, sym, ap, ◌∙◌, append_assoc, length, take, drop, rules}
use Rattle.std.specs.Prelude.{encode_utf8_all}
use Rattle.std.proofs.Output.{has_written_append}
use Rattle.s161_base.specs.helpers.FaultLines.{shown_char}
use Rattle.s161_base.proofs.Named.{name_shown}
use Rattle.s161_base.proofs.Words.{rest_shown}
use Rattle.s161_base.proofs.line.CharactersDisplay.fmt.Goals as goal

pub loop-rest-preserved : goal.loop-rest-preserved
loop-rest-preserved g c =
    λ plain.
    let now = c.loop-rest.invariant plain in
    let rest = c.loop-rest.rest.now in
    let ch = c.first-item.result in
    let behind = encode_utf8_all (take (length rest - 1) (drop 1 rest)) in
    let first = rest_shown rest ch c.in-len1-up.len_at_least c.first-item.is in (
      now.0 ++ shown_char ch,
      has_written_append _ _ _ _ _ _ now.1 (search rules),
      append_assoc now.0 (shown_char ch) _
          ∙ ap (λ l. now.0 ++ l) (sym (name_shown ch (encode_utf8_all rest) behind first)) ∙ now.2,
    )
