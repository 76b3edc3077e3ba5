use Rattle.std.proofs.Common.{◌∙◌, ap, arith}
use Rattle.m161_judge.specs.Verdict.{Criteria}
use Rattle.m161_c.proofs.Beginning.{is_begun, is_fresh, same_criteria}
use Rattle.m161_c.proofs.begun.keep.Goals as goal

pub invariant_of-result : goal.invariant_of-result
invariant_of-result c =
    let g = c.args.goal.now in
    let same = same_criteria g _ _ _ _
    (c.in_ok-from_slice-2.ensures.items ∙ ap (λ (x : Criteria). x.watches) c.goal.view_is)
    (c.in_ok-from_slice-3.ensures.items ∙ ap (λ (x : Criteria). x.never) c.goal.view_is)
    (c.in_ok-copy_output.ensures ∙ ap (λ (x : Criteria). x.output) c.goal.view_is)
    (c.in_ok-from_slice.ensures.items ∙ ap (λ (x : Criteria). x.keys) c.goal.view_is) in
    is_begun c.args.boot.state c.args.limit g _ c.args.exploring c.requires.boot c.requires.some (omega (arith, c.ranges.limit.fits)) c.requires.begun same

pub returns : goal.returns
returns c =
    let g = c.args.goal.now in
    let same = same_criteria g _ _ _ _
    (c.in_ok-from_slice-2.ensures.items ∙ ap (λ (x : Criteria). x.watches) c.goal.view_is)
    (c.in_ok-from_slice-3.ensures.items ∙ ap (λ (x : Criteria). x.never) c.goal.view_is)
    (c.in_ok-copy_output.ensures ∙ ap (λ (x : Criteria). x.output) c.goal.view_is)
    (c.in_ok-from_slice.ensures.items ∙ ap (λ (x : Criteria). x.keys) c.goal.view_is) in
    is_fresh c.args.boot.state c.args.limit g _ c.args.exploring c.requires.boot c.requires.some (omega (arith, c.ranges.limit.fits)) c.requires.begun same
