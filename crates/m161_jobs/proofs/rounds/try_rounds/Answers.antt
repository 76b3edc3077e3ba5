use Rattle.std.proofs.Common.{◌≡◌, subst, ◌+◌, ◌-◌, arith, rules}
use Rattle.std.specs.List.{range_with_len}
use Rattle.m161_jobs.specs.Trials.{AreRight}
use Rattle.m161_jobs.specs.helpers.Parts.{part_start}
use Rattle.m161_jobs.proofs.Joining.{first_behind, first_in, range_few, round_more}
use Rattle.m161_jobs.proofs.rounds.try_rounds.Goals as goal

pub overflow_add-cut : goal.overflow_add-cut
overflow_add-cut g c =
    let trials = c.args.trials.now in
    let right = g.T.Trials.right trials in
    let from = c.loop-from.from in
    let round = c.next-round.result in
    let more = round_more right (g.T.Trials.wrong trials) from c.args.count round.size round.parts c.loop-from.cut c.in-Clean.more c.in_ok-more.field-0
    c.loop-from.invariant.within c.loop-from.invariant.right c.in_ok-more.ensures.ok c.in-Clean.is in
    let few = range_few right 0 (part_start from c.args.count round.size round.parts) (c.loop-from.cut + c.in-Clean.more) more in
    let fits = c.ranges.count.fits in
    omega (arith, few, fits)

pub returns-in-Wrong-clause-ok : goal.returns-in-Wrong-clause-ok
returns-in-Wrong-clause-ok g c =
    let trials = c.args.trials.now in
    let right = g.T.Trials.right trials in
    let wrong = g.T.Trials.wrong trials in
    let from = c.loop-from.from in
    let round = c.next-round.result in
    let end = part_start from c.args.count round.size round.parts in
    let all : from ≡ from - 0 = omega arith in
    first_behind right wrong 0 from end c.args.count c.loop-from.cut c.in-Wrong.place c.in-Wrong.wrong (omega arith) (omega arith)
    (subst (λ n. AreRight right (range_with_len 0 n) c.loop-from.cut) all c.loop-from.invariant.right)
    (first_in right wrong from end c.in_ok-more.field-0 c.in-Wrong.place c.in-Wrong.wrong c.in-Wrong.is c.in_ok-more.ensures.ok)

pub loop-from-preserved : goal.loop-from-preserved
loop-from-preserved g c =
    let trials = c.args.trials.now in
    let right = g.T.Trials.right trials in
    let from = c.loop-from.from in
    let round = c.next-round.result in
    let end = part_start from c.args.count round.size round.parts in
    let more = round_more right (g.T.Trials.wrong trials) from c.args.count round.size round.parts c.loop-from.cut c.in-Clean.more c.in_ok-more.field-0
    c.loop-from.invariant.within c.loop-from.invariant.right c.in_ok-more.ensures.ok c.in-Clean.is in
    let few = range_few right 0 end (c.loop-from.cut + c.in-Clean.more) more in
    let value = c.end-from.ensures.value in
    let same : end - 0 ≡ c.end-from.result = omega (arith, value) in
    record {
      right = subst (λ n. AreRight right (range_with_len 0 n) (c.loop-from.cut + c.in-Clean.more)) same more;
      few = omega (arith, few, same);
      within = c.end-from.ensures.within;
      most = search rules;
    }
