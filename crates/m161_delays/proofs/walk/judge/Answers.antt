use Rattle.std.proofs.Common.{◌≡◌, ◌∙◌, refl, ap, ◌+◌, ◌%◌, ◌^◌}
use Rattle.m161_order.specs.Delays.{delays_of}
use Rattle.m161_delays.proofs.Counting.{counted_one}
use Rattle.m161_delays.proofs.Judging.{first_one}
use Rattle.m161_jobs.proofs.Judging.{right_of, wrong_of}
use Rattle.m161_delays.proofs.walk.judge.Goals as goal

pub returns-in-Right-clause-ok : goal.returns-in-Right-clause-ok
returns-in-Right-clause-ok g c =
    let numbers = delays_of c.args.delays in
    let right = g.T.Runs.right c.args.runs.now in
    counted_one (λ z. z ≡ numbers) right c.args.sums.now
    c.add.new.self numbers c.in-Right.is_cut refl
    (λ z h. h) (right_of (right numbers) (g.T.Runs.wrong c.args.runs.now numbers) c.in_ok-is_cut.field-0 c.in-Right.is_cut c.in-Right.is c.in_ok-is_cut.ensures.ok)
    c.add.ensures.runs
    (c.add.ensures.cut ∙ ap (λ n. (c.args.sums.now.cut + n) % 2 ^ 64) c.one_if.ensures)

pub returns-in-Wrong-clause-ok : goal.returns-in-Wrong-clause-ok
returns-in-Wrong-clause-ok g c =
    let numbers = delays_of c.args.delays in
    let right = g.T.Runs.right c.args.runs.now in
    let wrong = g.T.Runs.wrong c.args.runs.now in
    first_one right wrong (record { delays = c.args.delays; wrong = c.in-Wrong.wrong })
    (wrong_of (right numbers) (wrong numbers) c.in_ok-is_cut.field-0 c.in-Wrong.wrong c.in-Wrong.is c.in_ok-is_cut.ensures.ok)
