use Rattle.std.proofs.Common.{◌++◌, ◌∷◌, ℕ, List, [], ap, arith, ◌∙◌}
use Rattle.m161_explore.proofs.Chains.{chained_none, cuts_none}
use Rattle.m161_explore.proofs.keys.Keys.new.Goals as goal

pub invariant_of-result : goal.invariant_of-result
invariant_of-result c =
    let is_cuts = c.in_ok-push.ensures.items ∙ ap (λ (x : List ℕ). x ++ 0 ∷ []) c.new-cuts.ensures.items in
    record {
      cuts = cuts_none _ _ is_cuts c.new.ensures.items;
      chained = chained_none _ _ _ _ (omega (arith, c.in_ok-heads.ensures.size)) c.in_ok-heads.ensures.zeros c.new-2.ensures.items is_cuts;
    }
