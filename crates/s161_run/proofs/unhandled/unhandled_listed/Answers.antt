use Rattle.std.proofs.Common.{◌∙◌, subst, take}
use Rattle.m161_machine.specs.declared.conf.Conf.{Conf}
use Rattle.m161_machine.specs.History.{IsBootState}
use Rattle.s161_run.specs.helpers.Unhandled.{Looks}
use Rattle.s161_run.proofs.Looking.{listed_looked, none_looked}
use Rattle.s161_run.proofs.unhandled.unhandled_listed.Goals as goal

pub returns-then-not-leaves_file : goal.returns-then-not-leaves_file
returns-then-not-leaves_file c =
    λ booted stop entries boots makes watched.
    none_looked c.args.file.now c.deref.result.now c.args.watch.now c.leaves_file.result booted c.args.core.now.state entries
    (c.deref.ensures.value ∙ c.in_ok-spans.ensures) c.leaves_file.ensures c.if-not-leaves_file.true makes.leads watched

pub returns : goal.returns
returns c =
    let file = c.args.file.now in
    let t = c.args.core.now.state in
    let events = c.args.events.now in
    let listed = c.deref-2.result.now in
    let again = c.in_ok-again.again.state in
    let u = c.look_listed.new.core.state in
    let found = c.in_ok-found.found in
    let anew = subst (λ (conf : Conf). IsBootState file conf again) c.conf-2.ensures c.in_ok-again.ensures in
    let looks = subst (λ n. Looks listed again (take n events) u found) c.made.ensures c.in_ok-found.ensures in
    λ booted stop entries boots makes watched.
    listed_looked file listed booted again t u events stop entries found (c.deref-2.ensures.value ∙ c.in_ok-spans.ensures) boots anew makes looks
