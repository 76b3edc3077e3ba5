use Rattle.std.proofs.Common.{◌≡◌, ◌+◌, ◌<◌, ap, sym, subst, ℕ, Bool, List, [], ◌∷◌, ◌++◌, get_or, length, take}
use Rattle.std.proofs.lemmas.List.{take_more}
use Rattle.m161_audit.specs.declared.watch.Watch.{Watch}
use Rattle.m161_judge.specs.Verdict.{Criteria}
use Rattle.m161_reach.specs.Reach.{question_of}
use Rattle.m161_stores.specs.declared.watches.Unstored.{Unstored}
use Rattle.m161_stores.specs.Stores.{TellsStores}
use Rattle.m161_stores.specs.Watches.{AreUnstored}
use Rattle.m161_stores.proofs.Watching.{no_watch, one_more}
use Rattle.m161_stores.proofs.watches.unstored_watches.Goals as goal

pub loop-i-preserved : goal.loop-i-preserved
loop-i-preserved g c =
    let q = question_of c.args.boot.now.state c.args.goal.now c.args.found.now.known in
    let IsSo : ℕ → Bool → Type 0 = TellsStores q c.args.found.now.answer in
    let ws = c.args.goal.now.watches in
    let us = c.loop-i.unstored.items in
    let u = c.in_ok-unstored_of.field-0 in
    let i = c.loop-i.i in
    let same : c.goal.inside.watches.now ≡ ws = ap (λ (k : Criteria). k.watches) c.goal.view_is in
    let below : i < length ws = subst (λ (l : List Watch). i < length l) same c.loop-i-test.true in
    subst (λ (l : List Unstored). AreUnstored IsSo (take (i + 1) ws) l) (sym c.in_ok-push.ensures.items)
    (subst (λ (l : List Watch). AreUnstored IsSo l (us ++ u ∷ [])) (sym (take_more ws i no_watch below))
    (one_more IsSo (take i ws) us (get_or ws i no_watch) u c.loop-i.invariant
    (subst (λ (l : List Watch). IsSo (get_or l i no_watch).pte u.pte) same c.in_ok-unstored_of.ensures.pte)
    (subst (λ (l : List Watch). IsSo (get_or l i no_watch).done u.done) same c.in_ok-unstored_of.ensures.done)))
