use Rattle.std.proofs.Common.{◌≡◌, ◌∙◌, ap, sym, ℕ, ◌^◌, ◌-◌, ◌<◌, false, arith, take_all}
use Rattle.std.proofs.lemmas.Bool.Decides.{nat_tests}
use Rattle.std.proofs.lemmas.List.Sums.{count_by_more_no, fold_more}
use Rattle.std.specs.Prelude.{◌==◌, count_by, min, slice_index_or}
use Rattle.m161_order.proofs.delays.Delays.until_due.Goals as goal

above : (k n : ℕ) → k < n → (n == k) ≡ false
above k n less = grind (arith, nat_tests)

pub loop-number-preserved : goal.loop-number-preserved
loop-number-preserved c =
    let numbers = c.as_slice-numbers.result.now in
    let i = c.loop-number.number-index in
    let least = c.min-until.ensures in (
      least ∙ ap (λ n. min n (slice_index_or numbers i 0)) c.loop-number.invariant.0
          ∙ sym (fold_more min (2 ^ 32 - 1) numbers i 0 c.loop-number-test.true),
      λ k less.
          count_by_more_no (λ n. n == k) numbers i 0 c.loop-number-test.true
          (above k (slice_index_or numbers i 0) (omega (arith, less, least)))
          ∙ c.loop-number.invariant.1 k (omega (arith, less, least)),
    )

pub returns-clause-none : goal.returns-clause-none
returns-clause-none c = λ k less.
    let numbers = c.as_slice-numbers.result.now in
    ap (count_by (λ n. n == k)) (sym c.as_slice-numbers.ensures.numbers ∙ sym (take_all c.loop-number.number-index numbers c.loop-number-test.false))
    ∙ c.loop-number.invariant.1 k less
