use Rattle.std.proofs.Common.{◌∙◌, ◌-◌, None, subst, sym, take}
use Rattle.s161_run.proofs.Following.{behind_leads}
use Rattle.m161_machine.specs.declared.conf.Conf.{Conf}
use Rattle.m161_machine.specs.History.{IsBootState}
use Rattle.s161_run.specs.Driven.{rules_of}
use Rattle.s161_run.specs.helpers.Unhandled.{Looks}
use Rattle.s161_run.proofs.Looking.{chosen_looked, first_looked, none_looked}
use Rattle.s161_run.proofs.unhandled.unhandled_chosen.Goals as goal

pub returns-then-not-leaves_file : goal.returns-then-not-leaves_file
returns-then-not-leaves_file c =
    λ booted stop entries boots goes watched.
    none_looked c.args.file.now c.deref.result.now c.args.watch.now c.leaves_file.result booted c.args.core.now.state entries
    (c.deref.ensures.value ∙ c.in_ok-spans.ensures) c.leaves_file.ensures c.if-not-leaves_file.true (behind_leads goes) watched

pub returns-in-Some : goal.returns-in-Some
returns-in-Some c =
    let file = c.args.file.now in
    let t = c.args.core.now.state in
    let first = c.args.first.now in
    let rules = rules_of c.args.options c.args.keys.now in
    let listed = c.deref-2.result.now in
    let again = c.in_ok-again.again.state in
    let u = c.look_listed.new.core.state in
    let anew = subst (λ (conf : Conf). IsBootState file conf again) c.conf-2.ensures c.in_ok-again.ensures in
    let looks =
    subst (λ found. Looks listed again (take t.made first) u found) c.in-Some.is
    (subst (λ n. Looks listed again (take n first) u c.in_ok-trap.field-0) c.made-made.ensures c.in_ok-trap.ensures) in
    λ booted stop entries boots goes watched.
    first_looked rules c.args.options.events file listed booted again t u first stop entries c.in-Some.trap (c.deref-2.ensures.value ∙ c.in_ok-spans.ensures) boots anew goes looks

pub returns : goal.returns
returns c =
    let file = c.args.file.now in
    let t = c.args.core.now.state in
    let first = c.args.first.now in
    let rules = rules_of c.args.options c.args.keys.now in
    let listed = c.deref-3.result.now in
    let again = c.in_ok-again.again.state in
    let u = c.look_listed.new.core.state in
    let anew = subst (λ (conf : Conf). IsBootState file conf again) c.conf-2.ensures c.in_ok-again.ensures in
    let looks =
    subst (λ l. Looks l again (take t.made first) u None) (c.deref-2.ensures.value ∙ sym c.deref-3.ensures.value)
    (subst (λ found. Looks c.deref-2.result.now again (take t.made first) u found) c.in_default.is
    (subst (λ n. Looks c.deref-2.result.now again (take n first) u c.in_ok-trap.field-0) c.made-made.ensures c.in_ok-trap.ensures)) in
    λ booted stop entries boots goes watched.
    chosen_looked rules c.args.options.events file listed booted again t u first stop entries c.saturating_sub-behind.result c.in_ok-found.found
    (c.deref-3.ensures.value ∙ c.in_ok-spans.ensures) boots anew goes looks
    (c.saturating_sub-behind.ensures ∙ (λ i. c.made-made.ensures i - c.len.ensures i)) c.in_ok-found.ensures
