use Rattle.std.proofs.Common.{◌≡◌, ◌∙◌, ℕ, ◌-◌, true, sym, ap, arith, get_or, slice_index}
use Rattle.std.specs.Prelude.{None}
use Rattle.std.specs.List.{last_or}
use Rattle.m161_drive.specs.Priorities.{PriorityState}
use Rattle.m161_drive.specs.Ready.{is_ready}
use Rattle.m161_drive.proofs.Finding.{filter_rest, last_here}
use Rattle.m161_drive.proofs.ranking.Ranking.highest.Goals as goal

pub returns-then-is_ready-clause-value : goal.returns-then-is_ready-clause-value
returns-then-is_ready-clause-value g c =
    let r = c.args.self.now in
    let state = c.args.core.now.state in
    let test = λ (j : ℕ). is_ready state (slice_index r.processors j) in
    let k = c.loop-k.k - 1 in
    let before = c.loop-k.invariant in
    let more = c.loop-k-test.true in
    let less = before.0 in
    let same : get_or c.self.inside.processors k 0 ≡ get_or r.processors k 0 = ap (λ (x : PriorityState). get_or x.processors k 0) c.self.view_is in
    let passes : test k ≡ true = ap (is_ready state) (sym same) ∙ sym c.is_ready.ensures ∙ c.if-is_ready.true in
    sym (last_here test 32 k 0 k None (omega arith) (omega (arith, less, more)) passes
    (λ j from to. before.1 j (omega (arith, from, more)) (omega (arith, to))))

pub returns-clause-value : goal.returns-clause-value
returns-clause-value g c =
    let r = c.args.self.now in
    let state = c.args.core.now.state in
    let test = λ (j : ℕ). is_ready state (slice_index r.processors j) in
    let done = c.loop-k-test.false in
    let before = c.loop-k.invariant in
    sym (ap (last_or None) (filter_rest test 32 0 (λ j from to. before.1 j (omega (arith, done)) (omega (arith, to)))))
