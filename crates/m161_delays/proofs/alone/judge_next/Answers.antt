use Rattle.std.proofs.Common.{◌≡◌, ◌∙◌, refl, ap, ◌+◌, ◌%◌, ◌^◌}
use Rattle.m161_order.specs.Delays.{delays_of}
use Rattle.m161_delays.proofs.Counting.{made_one}
use Rattle.m161_delays.proofs.Slicing.{stops_next, stops_wrong}
use Rattle.m161_jobs.proofs.Judging.{right_of, wrong_of}
use Rattle.m161_delays.proofs.alone.judge_next.Goals as goal

pub returns-then-is_spent-clause-ok : goal.returns-then-is_spent-clause-ok
returns-then-is_spent-clause-ok g c =
    let right = g.T.Runs.right c.args.runs.now in
    stops_next right (g.T.Runs.wrong c.args.runs.now) c.args.limit c.args.sums.now c.args.delays (c.is_spent.ensures.yes c.if-is_spent.true)

pub returns-in-Right-clause-ok : goal.returns-in-Right-clause-ok
returns-in-Right-clause-ok g c =
    let numbers = delays_of c.args.delays in
    let right = g.T.Runs.right c.args.runs.now in
    made_one (λ z. z ≡ numbers) right c.args.limit c.args.sums.now
    c.add.new.self numbers c.in-Right.is_cut refl
    (λ z h. h) (right_of (right numbers) (g.T.Runs.wrong c.args.runs.now numbers) c.in_ok-is_cut.field-0 c.in-Right.is_cut c.in-Right.is c.in_ok-is_cut.ensures.ok)
    (c.is_spent.ensures.no c.if-is_spent.false)
    c.add.ensures.runs
    (c.add.ensures.cut ∙ ap (λ n. (c.args.sums.now.cut + n) % 2 ^ 64) c.one_if.ensures)

pub returns-in-Wrong-clause-ok : goal.returns-in-Wrong-clause-ok
returns-in-Wrong-clause-ok g c =
    let numbers = delays_of c.args.delays in
    let right = g.T.Runs.right c.args.runs.now in
    let wrong = g.T.Runs.wrong c.args.runs.now in
    stops_wrong right wrong c.args.limit c.args.sums.now c.args.delays c.in-Wrong.wrong
    (λ most is few. (c.is_spent.ensures.no c.if-is_spent.false most is few).0)
    (wrong_of (right numbers) (wrong numbers) c.in_ok-is_cut.field-0 c.in-Wrong.wrong c.in-Wrong.is c.in_ok-is_cut.ensures.ok)
