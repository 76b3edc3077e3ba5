use Rattle.std.proofs.Common.{subst}
use Rattle.m161_reach.specs.Told.{TellsRun}
use Rattle.m161_c.specs.Seeds.{Asked}
use Rattle.m161_c.proofs.Listing.{list_right, list_wrong}
use Rattle.m161_c.proofs.lists.ListRunsRuns.judge_from.Goals as goal

pub returns-in-Some-clause-ok : goal.returns-in-Some-clause-ok
returns-in-Some-clause-ok c =
    let self = c.args.self.now in
    let q = self.ends.now in
    let run = c.in_ok-run.run' in
    let told = c.in_ok-told.field-0 in
    list_wrong self.task.now self.booted.now q self.steps.now self.turns c.args.delays.now run told c.in-Some.told c.in-Some.is
    (c.in_ok-run.ensures c.requires)
    (subst (λ (a : Asked). TellsRun a.few q run told) c.task.view_is c.in_ok-told.ensures)

pub returns-in-None-clause-ok : goal.returns-in-None-clause-ok
returns-in-None-clause-ok c =
    let self = c.args.self.now in
    let q = self.ends.now in
    let run = c.in_ok-run.run' in
    let told = c.in_ok-told.field-0 in
    list_right self.task.now self.booted.now q self.steps.now self.turns c.args.delays.now run told c.in-None.is
    (c.in_ok-run.ensures c.requires)
    (subst (λ (a : Asked). TellsRun a.few q run told) c.task.view_is c.in_ok-told.ensures)
