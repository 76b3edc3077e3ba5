use Rattle.std.proofs.Common.{◌≡◌, ◌∙◌, ap, sym, subst, ◌≤◌, ◌<◌, length, arith}
use Rattle.std.specs.Prelude.{slice_index}
use Rattle.std.proofs.lemmas.List.{get_or_read}
use Rattle.m161_order.specs.Delays.{delays_of}
use Rattle.m161_delays.specs.helpers.Last.{last_from}
use Rattle.m161_delays.specs.helpers.Walking.{with_number}
use Rattle.m161_delays.proofs.Batches.{IsAnswerOf, clean_next, first_next, last_zero, number_at, wrong_next}
use Rattle.m161_delays.proofs.Points.{on_longer}
use Rattle.m161_delays.proofs.last.walk_last.Goals as goal

pub returns-in-Clean-clause-ok : goal.returns-in-Clean-clause-ok
returns-in-Clean-clause-ok g c =
    let runs = c.args.runs.now in
    let right = g.T.Runs.right runs in
    let wrong = g.T.Runs.wrong runs in
    let numbers = delays_of c.args.delays.now in
    let next = c.in-Ok.numbers.items in
    let size : c.len-count.result ≡ length next = let count = c.len-count.ensures in let long = c.in-Ok.numbers.ok.0 in omega (arith, count, long) in
    clean_next c.args.class (g.T.Runs.offers runs) right wrong numbers next c.len-count.result c.in-Clean.cut c.args.sums.now c.add.new.self
    c.in_ok-cut.field-0 c.in-Ok.ensures size c.in-Clean.is
    (subst (λ xs. IsAnswerOf right wrong numbers xs c.len-count.result c.in_ok-cut.field-0) c.deref.ensures.value c.in_ok-cut.ensures.ok)
    c.add.ensures.runs c.add.ensures.cut

pub with_number-requires-clause-least : goal.with_number-requires-clause-least
with_number-requires-clause-least g c =
    let runs = c.args.runs.now in
    let right = g.T.Runs.right runs in
    let wrong = g.T.Runs.wrong runs in
    let numbers = delays_of c.args.delays.now in
    let next = c.in-Ok.numbers.items in
    let answer = wrong_next right wrong numbers next c.len-count.result c.in-Wrong.place c.in-Wrong.wrong c.in_ok-cut.field-0 c.in-Wrong.is
    (subst (λ xs. IsAnswerOf right wrong numbers xs c.len-count.result c.in_ok-cut.field-0) c.deref.ensures.value c.in_ok-cut.ensures.ok) in
    let within : c.in-Wrong.place < length next = let count = c.len-count.ensures in let long = c.in-Ok.numbers.ok.0 in let less = answer.0 in omega (arith, count, long, less) in
    let same : slice_index next c.in-Wrong.place ≡ c.index.result.now = sym (get_or_read next _ _ within c.index.ensures 0) in
    subst (λ n. last_from 0 numbers ≤ n) same
    (last_zero c.args.class.from (slice_index next c.in-Wrong.place) numbers (number_at (λ n. last_from c.args.class.from numbers ≤ n) next c.in-Wrong.place within c.in-Ok.ensures.least))

pub returns-clause-ok : goal.returns-clause-ok
returns-clause-ok g c =
    let runs = c.args.runs.now in
    let right = g.T.Runs.right runs in
    let wrong = g.T.Runs.wrong runs in
    let numbers = delays_of c.args.delays.now in
    let next = c.in-Ok.numbers.items in
    let answer = wrong_next right wrong numbers next c.len-count.result c.in-Wrong.place c.in-Wrong.wrong c.in_ok-cut.field-0 c.in-Wrong.is
    (subst (λ xs. IsAnswerOf right wrong numbers xs c.len-count.result c.in_ok-cut.field-0) c.deref.ensures.value c.in_ok-cut.ensures.ok) in
    let within : c.in-Wrong.place < length next = let count = c.len-count.ensures in let long = c.in-Ok.numbers.ok.0 in let less = answer.0 in omega (arith, count, long, less) in
    let same : c.index.result.now ≡ slice_index next c.in-Wrong.place = get_or_read next _ _ within c.index.ensures 0 in
    first_next c.args.class (g.T.Runs.offers runs) right wrong numbers next c.in-Wrong.place (record { delays = c.with_number.result; wrong = c.in-Wrong.wrong })
    c.in-Ok.ensures within (c.with_number.ensures ∙ ap (with_number numbers) same) answer.1 answer.2

pub try_each-requires-after_bounds : goal.try_each-requires-after_bounds
try_each-requires-after_bounds g c κs bounds n less =
    let runs = c.args.runs.now in
    let numbers = delays_of c.args.delays.now in
    let next = c.in-Ok.numbers.items in
    let within : n < length next = let count = c.len-count.ensures in let long = c.in-Ok.numbers.ok.0 in omega (arith, count, long, less) in
    let least : last_from c.args.class.from numbers ≤ slice_index next n = number_at (λ k. last_from c.args.class.from numbers ≤ k) next n within c.in-Ok.ensures.least in
    subst (λ xs. (n < length xs) × (length numbers < 64) × (last_from 0 numbers ≤ slice_index xs n)
    × g.T.Runs.is_on runs (with_number numbers (slice_index xs n)) c.args.point.now) (sym c.deref.ensures.value) (
      within,
      (let few = c.requires.few.0 in let most = c.requires.few.1 in omega (arith, few, most)),
      last_zero c.args.class.from (slice_index next n) numbers least,
      on_longer (g.T.Runs.is_on runs) numbers (last_from c.args.class.from numbers) (slice_index next n) c.args.point.now least c.requires.point,
    )
