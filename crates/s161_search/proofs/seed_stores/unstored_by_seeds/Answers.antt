use Rattle.std.proofs.Common.{◌+◌, sym, subst, ℕ, Bool, List, [], ◌∷◌, ◌++◌, get_or, take}
use Rattle.std.proofs.lemmas.List.{take_more}
use Rattle.m161_audit.specs.declared.watch.Watch.{Watch}
use Rattle.m161_stores.specs.declared.watches.Unstored.{Unstored}
use Rattle.m161_stores.specs.Watches.{AreUnstored}
use Rattle.m161_stores.proofs.Watching.{no_watch, one_more}
use Rattle.s161_search.specs.Unstored.{SeedsUnstored}
use Rattle.s161_search.specs.helpers.Inputs.{given_of}
use Rattle.s161_search.proofs.seed_stores.unstored_by_seeds.Goals as goal

pub loop-i-preserved : goal.loop-i-preserved
loop-i-preserved g c =
    let IsSo : ℕ → Bool → Type 0 = SeedsUnstored c.args.basis.now.task (given_of c.args.basis.now.inputs.now) in
    let ws = c.args.watches.now in
    let us = c.loop-i.unstored.items in
    let u = c.in_ok-one.one in
    let i = c.loop-i.i in
    subst (λ (l : List Unstored). AreUnstored IsSo (take (i + 1) ws) l) (sym c.in_ok-push_unstored.ensures)
    (subst (λ (l : List Watch). AreUnstored IsSo l (us ++ u ∷ [])) (sym (take_more ws i no_watch c.loop-i-test.true))
    (one_more IsSo (take i ws) us (get_or ws i no_watch) u c.loop-i.invariant c.in_ok-one.ensures.pte c.in_ok-one.ensures.done))
