use Rattle.std.proofs.Common.{◌≡◌, ◌+◌, subst, arith, rules}
use Rattle.m161_text.specs.Lines.{FirstBad}
use Rattle.m161_audit.specs.WatchText.{AreWatchLines}
use Rattle.m161_audit.proofs.WatchTexts.{SoFar, bad_line, end, end_only, more, no_bad}
use Rattle.m161_audit.proofs.text.read_watches.Goals as goal

pub returns-in_default-parse_item-clause-line : goal.returns-in_default-parse_item-clause-line
returns-in_default-parse_item-clause-line c = λ n is.
    let here : c.loop-line.number + 1 ≡ n = cc in
    subst (FirstBad AreWatchLines c.args.text.now) here
    (bad_line c.args.text.now c.loop-line.rest.now c.in-Some.line.now c.in-Some.more.now c.loop-line.watches.items c.loop-line.number c.loop-line.invariant.so_far c.in-Some.ensures.lines c.in_default-parse_item.ensures)

pub returns-in_default-parse_item-clause-only : goal.returns-in_default-parse_item-clause-only
returns-in_default-parse_item-clause-only c = λ ws other.
    absurd (no_bad _ ws _ other (bad_line c.args.text.now c.loop-line.rest.now c.in-Some.line.now c.in-Some.more.now c.loop-line.watches.items c.loop-line.number c.loop-line.invariant.so_far c.in-Some.ensures.lines c.in_default-parse_item.ensures))

pub loop-line-preserved : goal.loop-line-preserved
loop-line-preserved c = record {
  so_far = more c.args.text.now c.loop-line.rest.now c.in-Some.line.now c.in-Some.more.now c.loop-line.watches.items c.push_item.new.watches.items c.loop-line.number c.in-Some-parse_item.item c.loop-line.invariant.so_far
      c.in-Some.ensures.lines c.in-Some-parse_item.ensures c.in_ok-push_item.ensures.ok;
  utf8 = search rules;
  short = omega (arith, c.in-Some.ensures.shorter, c.loop-line.invariant.short);
}

pub returns-clause-found : goal.returns-clause-found
returns-clause-found c = end c.args.text.now c.loop-line.watches.items c.loop-line.number (subst (λ bs. SoFar c.args.text.now bs c.loop-line.watches.items c.loop-line.number) c.in_default.ensures.lines c.loop-line.invariant.so_far)

pub returns-clause-only : goal.returns-clause-only
returns-clause-only c = λ ws other. end_only c.args.text.now c.loop-line.watches.items ws c.loop-line.number (subst (λ bs. SoFar c.args.text.now bs c.loop-line.watches.items c.loop-line.number) c.in_default.ensures.lines c.loop-line.invariant.so_far) other
