use Rattle.std.proofs.Common.{◌∙◌, ap}
use Rattle.m161_text.specs.Lines.{with_line_end}
use Rattle.s161_search.specs.Seeds.{seed_at}
use Rattle.s161_search.specs.Texts.{found_text, seed_text}
use Rattle.s161_search.proofs.search.found_text.Goals as goal

pub returns : goal.returns
returns c =
    let made = c.in_ok-printed.ensures in
    let printed = c.in_ok-printed.printed in
    record {
      place = c.args.place;
      run = c.args.wrong.run;
      told = c.args.wrong.told;
      first = c.requires.first;
      events = printed.events.items;
      are_printed = made.are_printed;
      final = made.final;
      is_told = made.is_told;
      same_kind = made.same_kind;
      text_is =
          ap (λ v. v.items) c.into_bytes.ensures.value
          ∙ c.in_ok-text.ensures (seed_text (seed_at c.args.basis.now.task.drive.order c.args.place))
          (c.in_ok-line.ensures ∙ ap (λ n. with_line_end (seed_text n)) c.seed_at.ensures)
          ∙ ap (λ v. found_text c.args.basis.now.inputs.now.first.conf (seed_text (seed_at c.args.basis.now.task.drive.order c.args.place)) v c.deref.result.now) made.verdict_is
          ∙ ap (λ es. found_text c.args.basis.now.inputs.now.first.conf (seed_text (seed_at c.args.basis.now.task.drive.order c.args.place)) made.final.verdict es) c.deref.ensures.value;
    }
