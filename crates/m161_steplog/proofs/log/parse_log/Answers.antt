use Rattle.std.proofs.Common.{◌≡◌, ◌+◌, ap, length, subst, arith, rules}
use Rattle.std.proofs.lemmas.List.{length_push}
use Rattle.m161_text.specs.Lines.{lines_of, FirstBad}
use Rattle.m161_steplog.specs.Log.{AreLogLines}
use Rattle.m161_steplog.proofs.Logs.{bad_header, after_header, one_more, bad_entry_at, lines_left}
use Rattle.m161_steplog.proofs.log.parse_log.Goals as goal

pub returns-in_default-parse_header-clause-line : goal.returns-in_default-parse_header-clause-line
returns-in_default-parse_header-clause-line c = λ n is.
    let here : 1 ≡ n = cc in
    subst (FirstBad AreLogLines c.args.text.now) here (bad_header c.args.text.now _ _ c.in-Some.ensures.lines c.in_default-parse_header.ensures)

pub loop-line-init : goal.loop-line-init
loop-line-init c = record {
  read = after_header c.args.text.now _ _ _ c.new-entries.result.items c.new-entries.ensures.items c.in-Some.ensures.lines c.in-Some-parse_header.ensures;
  utf8 = search rules;
  count = omega (arith, ap length c.new-entries.ensures.items);
}

pub overflow_add-number : goal.overflow_add-number
overflow_add-number c = omega (arith, c.loop-line.invariant.count)

pub returns-in_default-parse_entry-clause-line : goal.returns-in_default-parse_entry-clause-line
returns-in_default-parse_entry-clause-line c = λ n is.
    let here : c.loop-line.number + 1 ≡ n = cc in
    bad_entry_at c.args.text.now _ _ _ c.loop-line.entries.items n (omega (arith, c.loop-line.invariant.count)) (lines_left _ _ _ _ _ c.in-Some-next_line.ensures.lines c.loop-line.invariant.read) c.in_default-parse_entry.ensures

pub loop-line-preserved : goal.loop-line-preserved
loop-line-preserved c =
    let es = c.loop-line.entries.items in
    let items = c.in_ok-push.ensures.items in
    record {
      read = one_more c.args.text.now _ _ _ es _ _ items (lines_left _ _ _ _ _ c.in-Some-next_line.ensures.lines c.loop-line.invariant.read) c.in-Some-parse_entry.ensures;
      utf8 = search rules;
      count = omega (arith, c.loop-line.invariant.count, ap length items, length_push es c.in-Some-parse_entry.entry);
    }

pub returns-clause-found : goal.returns-clause-found
returns-clause-found c = lines_left _ _ _ _ _ (ap lines_of c.in_default-next_line.ensures.lines) c.loop-line.invariant.read
