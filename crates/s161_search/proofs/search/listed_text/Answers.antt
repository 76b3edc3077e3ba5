use Rattle.std.proofs.Common.{◌∙◌, ap}
use Rattle.m161_order.specs.Delays.{delays_of}
use Rattle.m161_text.specs.Lines.{with_line_end}
use Rattle.s161_search.specs.Texts.{delays_text, found_text}
use Rattle.s161_search.proofs.search.listed_text.Goals as goal

pub returns : goal.returns
returns c =
    let made = c.in_ok-printed.ensures in
    let printed = c.in_ok-printed.printed in
    let numbers = delays_of c.args.delays.now in
    record {
      events = printed.events.items;
      are_printed = made.are_printed;
      final = made.final;
      is_told = made.is_told;
      same_kind = made.same_kind;
      text_is =
          ap (λ v. v.items) c.into_bytes.ensures.value
          ∙ c.in_ok-text.ensures (delays_text numbers) (c.in_ok-line.ensures ∙ ap (λ ns. with_line_end (delays_text ns)) c.as_slice.ensures.numbers)
          ∙ ap (λ v. found_text c.args.basis.now.inputs.now.first.conf (delays_text numbers) v c.deref.result.now) made.verdict_is
          ∙ ap (λ es. found_text c.args.basis.now.inputs.now.first.conf (delays_text numbers) made.final.verdict es) c.deref.ensures.value;
    }
