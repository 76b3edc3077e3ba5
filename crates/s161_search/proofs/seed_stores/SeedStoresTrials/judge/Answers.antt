use Rattle.std.proofs.Common.{◌∙◌, subst, sym, true, false}
use Rattle.s161_search.specs.helpers.Delayed.{IsRunFrom}
use Rattle.s161_search.specs.helpers.Inputs.{given_of}
use Rattle.s161_search.proofs.Storing.{seed_stores}
use Rattle.s161_search.proofs.seed_stores.SeedStoresTrials.judge.Goals as goal

pub returns-then-branch-clause-ok : goal.returns-then-branch-clause-ok
returns-then-branch-clause-ok c =
    let self = c.args.self.now in
    let basis = self.basis.now in
    let given = given_of basis.inputs.now in
    seed_stores basis.booted.now basis.start.now basis.task given self.word c.args.place c.in_ok-run.run' true
    (subst (λ order. IsRunFrom basis.start.now basis.task given order c.in_ok-run.run') c.order_at-order.ensures c.in_ok-run.ensures.ok)
    (sym c.if-branch.true ∙ c.in_ok-run_stores.ensures)

pub returns-clause-ok : goal.returns-clause-ok
returns-clause-ok c =
    let self = c.args.self.now in
    let basis = self.basis.now in
    let given = given_of basis.inputs.now in
    seed_stores basis.booted.now basis.start.now basis.task given self.word c.args.place c.in_ok-run.run' false
    (subst (λ order. IsRunFrom basis.start.now basis.task given order c.in_ok-run.run') c.order_at-order.ensures c.in_ok-run.ensures.ok)
    (sym c.if-branch.false ∙ c.in_ok-run_stores.ensures)
