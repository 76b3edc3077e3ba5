use Rattle.std.proofs.Common.{◌≡◌, ◌∙◌, ◌++◌, ◌+◌, suc, sym, ap, arith, take}
use Rattle.std.specs.Prelude.{slice_index_or}
use Rattle.s161_search.specs.Notes.{notes_text, watch_notes}
use Rattle.s161_search.proofs.Noting.{none_unstored, notes_more}
use Rattle.s161_search.proofs.notes.notes_text.Goals as goal

pub loop-i-preserved : goal.loop-i-preserved
loop-i-preserved c =
    let us = c.args.unstored.now in
    let i = c.loop-i.i in
    let number : i ≡ 0 + i = omega arith in
    let next : suc i ≡ i + 1 = omega arith in
    c.in_ok-put_watch.ensures
    ∙ ap (λ xs. xs ++ watch_notes i (slice_index_or us i none_unstored)) c.loop-i.invariant
    ∙ ap (λ n. notes_text 0 (take i us) ++ watch_notes n (slice_index_or us i none_unstored)) number
    ∙ sym (notes_more us i 0 c.loop-i-test.true)
    ∙ ap (λ n. notes_text 0 (take n us)) next
