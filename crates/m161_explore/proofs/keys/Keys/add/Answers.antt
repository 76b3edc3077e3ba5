use Rattle.std.proofs.Common.{◌≡◌, ℕ, ◌+◌, ◌<◌, ◌++◌, ◌∷◌, List, [], ap, arith, length, ◌∙◌}
use Rattle.std.specs.Prelude.{slice_set}
use Rattle.m161_explore.specs.helpers.Keys.{bucket, parts}
use Rattle.m161_explore.proofs.Chains.{any_default, chained_push}
use Rattle.m161_explore.proofs.Parts.{pushed_cuts, pushed_parts}
use Rattle.m161_explore.proofs.keys.Keys.add.Goals as goal

pub invariant_of-self-2 : goal.invariant_of-self-2
invariant_of-self-2 c =
    let heads : List ℕ = c.self.inside.heads.items in
    let before : List ℕ = c.self.inside.before.items in
    let lists : List (List ℕ) = parts c.self.inside.cuts.items c.self.inside.words.items in
    let place : ℕ = c.bucket_of-place.result in
    let size : c.len-2.result ≡ length c.self.inside.heads.items = omega arith in
    let number : c.len.result ≡ length c.self.inside.before.items = omega arith in
    let within : place < length heads = omega (arith, c.bucket_of-place.ensures.within, size) in
    record {
      cuts = pushed_cuts c.self.inside.cuts.items c.reserve.new.self.items c.push_reserved.new.self.items c.self.inside.words.items
          c.extend_from_slice.new.self.items c.args.words.now c.len-end.result c.self.invariant.cuts c.reserve.ensures.items
          c.in_ok-extend_from_slice.ensures.items c.push_reserved.ensures.items (omega arith);
      chained = chained_push heads before _ _ lists _ c.args.words.now place c.self.invariant.chained
          within (c.bucket_of-place.ensures.is ∙ ap (λ x. bucket x c.args.words.now) size)
          (pushed_parts c.self.inside.cuts.items c.reserve.new.self.items c.push_reserved.new.self.items c.self.inside.words.items
          c.extend_from_slice.new.self.items c.args.words.now c.len-end.result c.self.invariant.cuts c.reserve.ensures.items
          c.in_ok-extend_from_slice.ensures.items c.push_reserved.ensures.items (omega arith))
          (c.push_reserved-2.ensures.items ∙ ap (λ (x : List ℕ). x ++ c.index-last.result.now ∷ []) c.reserve-2.ensures.items ∙ ap (λ (x : ℕ). before ++ x ∷ []) (c.index-last.ensures ∙ any_default heads place c.index-last.result.now 0 within))
          (ap (λ (x : ℕ). slice_set heads place (x + 1)) (number ∙ c.self.invariant.chained.sizes));
    }

pub returns : goal.returns
returns c = record {
  ok = pushed_parts c.self.inside.cuts.items c.reserve.new.self.items c.push_reserved.new.self.items c.self.inside.words.items
      c.extend_from_slice.new.self.items c.args.words.now c.len-end.result c.self.invariant.cuts c.reserve.ensures.items
      c.in_ok-extend_from_slice.ensures.items c.push_reserved.ensures.items (omega arith)
      ∙ ap (λ x. x ++ c.args.words.now ∷ []) c.self.view_is;
  err = tt;
}
