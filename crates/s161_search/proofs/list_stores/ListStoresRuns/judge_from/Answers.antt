use Rattle.std.proofs.Common.{◌∙◌, sym, true, false}
use Rattle.s161_search.specs.helpers.Inputs.{given_of}
use Rattle.s161_search.proofs.Storing.{list_stores}
use Rattle.s161_search.proofs.list_stores.ListStoresRuns.judge_from.Goals as goal

pub returns-then-branch-clause-ok : goal.returns-then-branch-clause-ok
returns-then-branch-clause-ok c =
    let self = c.args.self.now in
    let basis = self.runs.now.basis.now in
    list_stores basis.booted.now basis.start.now basis.task (given_of basis.inputs.now) self.runs.now.turns self.word c.args.delays.now c.in_ok-run.run' true
    (c.in_ok-run.ensures.ok c.requires) (sym c.if-branch.true ∙ c.in_ok-run_stores.ensures)

pub returns-clause-ok : goal.returns-clause-ok
returns-clause-ok c =
    let self = c.args.self.now in
    let basis = self.runs.now.basis.now in
    list_stores basis.booted.now basis.start.now basis.task (given_of basis.inputs.now) self.runs.now.turns self.word c.args.delays.now c.in_ok-run.run' false
    (c.in_ok-run.ensures.ok c.requires) (sym c.if-branch.false ∙ c.in_ok-run_stores.ensures)
