use Rattle.std.proofs.Common.{◌≡◌, ◌∙◌, ap, sym, subst, Option, None, Some}
use Rattle.std.specs.Prelude.{if◌then◌else◌}
use Rattle.std.specs.Option.{option_or}
use Rattle.m161_cpu.specs.Fetch.{fetched_word}
use Rattle.m161_machine.specs.declared.event.Event.TheVariants.{Step}
use Rattle.m161_machine.specs.Fetched.{fetches_none}
use Rattle.m161_machine.specs.State.{processor_at}
use Rattle.m161_machine.specs.Uses.{uses_in}
use Rattle.m161_states.specs.declared.verdict.EventVerdict.{EventVerdict}
use Rattle.m161_states.specs.System.{Explored}
use Rattle.m161_states.specs.Verdicts.{reached_by, wrong_in, wrong_with}
use Rattle.m161_reach.specs.helpers.Advance.{AdvancesBy, Takes, asked}
use Rattle.m161_reach.proofs.Advancing.{accepted_came, refused_came}
use Rattle.m161_reach.proofs.Fresh.{fresh_uses}
use Rattle.m161_reach.proofs.Judging.{reached}
use Rattle.m161_reach.proofs.advance.advance_known.Goals as goal

pub stale_use-stale-requires-clause-uses : goal.stale_use-stale-requires-clause-uses
stale_use-stale-requires-clause-uses g c =
    let p = c.args.p in
    c.uses-uses.ensures.value ∙ sym (fresh_uses p c.place.inside.core.state) ∙ ap (λ (x : Explored). uses_in p x.state) c.place.view_is

pub returns-in-Some : goal.returns-in-Some
returns-in-Some g c = λ known stop.
    let p = c.args.p in
    let x = c.args.place.now in
    let t = c.take_step.new.place in
    let asks = c.args.goal.now in
    let o = c.in-Some.outcome in
    let at = processor_at p x.state.processors in
    let takes : Takes asks x (Step p) t (Some o) = subst (Takes asks x (Step p) t) c.in-Some.is c.in_ok-outcome.ensures in
    let reach : c.reached_by.result ≡ reached_by asks x p o =
    c.reached_by.ensures ∙ ap (λ (v : Option EventVerdict). if fetches_none o then None else v) c.within_reach-reach.ensures
    ∙ sym (reached asks.never p at.pc (fetched_word x.state.memory at.pc at) (fetches_none o)) in
    let with : c.first-with.result ≡ wrong_with asks x (Step p) o = c.first-with.ensures ∙ (λ i. option_or (c.stale_use-stale.ensures i) (reach i)) in
    let all : c.first.result ≡ option_or (wrong_with asks x (Step p) o) (wrong_in asks t) =
    c.first.ensures ∙ (λ i. option_or (with i) (c.wrong_in.ensures i)) in
    subst (AdvancesBy (asked asks known) x (Some (Step p)) t) (sym c.advanced.ensures)
    (accepted_came (asked asks known) x t (Step p) o takes.0 c.first.result stop takes.1 takes.2 (sym all))

pub returns-in-None : goal.returns-in-None
returns-in-None g c = λ known stop.
    let p = c.args.p in
    let x = c.args.place.now in
    let t = c.take_step.new.place in
    let asks = c.args.goal.now in
    let takes : Takes asks x (Step p) t None = subst (Takes asks x (Step p) t) c.in-None.is c.in_ok-outcome.ensures in
    refused_came (asked asks known) x t (Step p) takes.0 stop takes.1 takes.2
