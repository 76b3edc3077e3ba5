use Rattle.std.proofs.Common.{◌≡◌, ◌∙◌, ◌+◌, arith, get_or}
use Rattle.std.proofs.lemmas.List.FromFn.{get_or-map-range_with_len}
use Rattle.m161_tlb.specs.Row.{overlaps}
use Rattle.m161_tlb.specs.Rows.{blank_row}
use Rattle.m161_alike.specs.Restored.{row_in, rows_in}
use Rattle.m161_reach.proofs.restore.are_apart.Goals as goal

pub returns : goal.returns
returns c = λ yes i j hi hj other.
    let words = c.args.words.now in
    let here : 0 + i ≡ i = omega arith in
    let there : 0 + j ≡ j = omega arith in
    let first : get_or (rows_in words) i blank_row ≡ row_in words i = get_or-map-range_with_len (row_in words) 0 64 i i blank_row hi here in
    let second : get_or (rows_in words) j blank_row ≡ row_in words j = get_or-map-range_with_len (row_in words) 0 64 j j blank_row hj there in
    (λ k. overlaps (first k) (second k)) ∙ c.loop-i.invariant i j (omega (arith, hi)) hj other
