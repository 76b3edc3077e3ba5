use Rattle.std.proofs.Common.{◌∙◌, ◌≡◌, ℕ, ◌+◌, ◌*◌, ◌++◌, ◌∷◌, List, [], ap, arith, get_or, length-set, take}
use Rattle.std.specs.Prelude.{slice_set}
use Rattle.m161_tlb.specs.Rows.{blank_row}
use Rattle.m161_machine.specs.State.{processor_at}
use Rattle.m161_alike.specs.Words.{row_words}
use Rattle.m161_alike.proofs.Written.{got, pieces_more, pieces_whole, take_three}
use Rattle.m161_alike.proofs.processor.rows.Goals as goal

pub loop-i-preserved : goal.loop-i-preserved
loop-i-preserved g c =
    let rows = (processor_at c.args.p c.args.core.now.state.processors).rows in
    let i : ℕ = c.loop-i.i in
    let a : ℕ = c.number.result in
    let b : ℕ = c.number-in-loop-i.result in
    let d : ℕ = c.row_flags.result in
    let so_far : List ℕ = take (3 * i) c.loop-i.words in
    let after : List ℕ = slice_set (slice_set (slice_set c.loop-i.words (3 * i) a) (3 * i + 1) b) (3 * i + 2) d in
    let there : 3 * (i + 1) ≡ 3 * i + 3 = omega arith in
    record {
      size = length-set (slice_set (slice_set c.loop-i.words (3 * i) a) (3 * i + 1) b) (3 * i + 2) d
          ∙ length-set (slice_set c.loop-i.words (3 * i) a) (3 * i + 1) b ∙ length-set c.loop-i.words (3 * i) a ∙ c.loop-i.invariant.size;
      so_far = pieces_more (λ k. row_words (get_or rows k blank_row)) [] so_far (take (3 * (i + 1)) after) i c.loop-i.invariant.so_far
          (ap (λ (n : ℕ). take n after) there
          ∙ take_three c.loop-i.words (3 * i) a b d (omega (arith, c.loop-i.invariant.size, c.loop-i-test.true))
          ∙ (λ k. so_far ++ c.number.ensures.value k ∷ c.number-in-loop-i.ensures.value k ∷ c.row_flags.ensures k ∷ [])
          ∙ ap (λ r. so_far ++ row_words r) (got rows i c.row-row.result c.row-row.ensures));
    }

pub returns : goal.returns
returns g c =
    pieces_whole (λ i. row_words (get_or (processor_at c.args.p c.args.core.now.state.processors).rows i blank_row)) c.loop-i.words c.loop-i.i 64
    (omega arith) c.loop-i.invariant.size c.loop-i.invariant.so_far
