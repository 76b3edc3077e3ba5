use Rattle.std.proofs.Common.{◌≡◌, ◌∙◌, ◌++◌, ◌+◌, suc, codes, decimal, sym, ap, append_assoc, arith, string_bytes, take}
use Rattle.std.specs.Prelude.{slice_index_or}
use Rattle.s161_search.specs.Texts.{numbers_text}
use Rattle.s161_search.proofs.Numbers.{numbers_more}
use Rattle.s161_search.proofs.texts.put_numbers.Goals as goal

pub loop-number-preserved : goal.loop-number-preserved
loop-number-preserved c =
    let ns = c.args.numbers.now in
    let i = c.loop-number.number-index in
    let old = string_bytes c.args.text.now in
    let word = codes " " ++ decimal (slice_index_or ns i 0) in
    let next : suc i ≡ i + 1 = omega arith in
    c.in_ok-push_str.ensures.bytes
    ∙ (λ k. c.loop-number.invariant k ++ (c.as_str.ensures.value ∙ c.in_ok-word.ensures) k)
    ∙ append_assoc old (numbers_text (take i ns)) word
    ∙ ap (λ xs. old ++ xs) (sym (numbers_more ns i 0 c.loop-number-test.true) ∙ ap (λ k. numbers_text (take k ns)) next)
