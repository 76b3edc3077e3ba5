use Rattle.std.proofs.Common.{◌≡◌, ◌∙◌, ap, sym, subst}
use Rattle.m161_machine.specs.declared.conf.Conf.{Conf}
use Rattle.m161_machine.specs.State.{AreAllApart, CoreValue, State}
use Rattle.m161_machine.specs.History.{FitsMode, History, boot_state}
use Rattle.m161_machine.specs.declared.event.Entry.{Entry}
use Rattle.std.specs.Prelude.{All}
use Rattle.m161_machine.proofs.Modes.{run_fits}
use Rattle.m161_machine.specs.Sound.{IsLawful}
use Rattle.m161_machine.proofs.Counted.{counts_steps}
use Rattle.m161_machine.proofs.Given.{run_gives}
use Rattle.m161_machine.proofs.Made.{base_at_boot, conf_stays, counted, few_made}
use Rattle.m161_machine.proofs.machine.Machine.replay.Given.{Over}
use Rattle.m161_machine.proofs.machine.Machine.replay.Goals as goal

lawful : (g : Over) (c : goal.After-law-2 g) → IsLawful c.args.self.now
lawful g c = subst IsLawful c.self.view_is c.self.invariant.0

pub returns-clause-boot : goal.returns-clause-boot
returns-clause-boot g c = λ none. base_at_boot c.args.self.now.start c.args.self.now.base (lawful g c).reached none

pub returns-clause-made : goal.returns-clause-made
returns-clause-made g c = counted c.args.self.now.log c.args.self.now.base c.args.self.now.state (lawful g c).replay

pub returns-clause-few : goal.returns-clause-few
returns-clause-few g c = few_made c.args.self.now (lawful g c)

pub returns-clause-steps : goal.returns-clause-steps
returns-clause-steps g c = counts_steps c.args.self.now (lawful g c).replay

pub returns-clause-outcomes : goal.returns-clause-outcomes
returns-clause-outcomes g c = run_gives c.args.self.now.log c.args.self.now.base c.args.self.now.state (lawful g c).replay

state_is : (g : Over) (c : goal.After-law-2 g) → c.deref.result.now.state ≡ c.args.self.now.state
state_is g c = ap (λ (v : CoreValue). v.state) c.deref.ensures ∙ ap (λ (h : History). h.state) c.self.view_is

base_is : (g : Over) (c : goal.After-law-2 g) → c.deref-2.result.now.state ≡ c.args.self.now.base
base_is g c = ap (λ (v : CoreValue). v.state) c.deref-2.ensures ∙ ap (λ (h : History). h.base) c.self.view_is

base_conf : (g : Over) (c : goal.After-law-2 g) → c.args.self.now.base.conf ≡ c.args.self.now.start.conf
base_conf g c =
    let l = lawful g c in
    conf_stays l.reached.0 (boot_state c.args.self.now.start) c.args.self.now.base l.reached.1

pub returns-clause-apart : goal.returns-clause-apart
returns-clause-apart g c = λ strict. (
  subst AreAllApart (ap (λ (s : State). s.processors) (state_is g c))
      (c.law.ensures.apart (ap (λ (s : State). s.conf.strict) (state_is g c) ∙ ap (λ (k : Conf). k.strict) (lawful g c).conf_is ∙ strict)),
  subst AreAllApart (ap (λ (s : State). s.processors) (base_is g c))
      (c.law-2.ensures.apart (ap (λ (s : State). s.conf.strict) (base_is g c) ∙ ap (λ (k : Conf). k.strict) (base_conf g c) ∙ strict)),
)

pub returns-clause-unit : goal.returns-clause-unit
returns-clause-unit g c = (
  ap (λ (s : State). s.links.unit) (sym (state_is g c)) ∙ c.law.ensures.unit
      ∙ ap (λ (s : State). s.conf.link) (state_is g c) ∙ ap (λ (k : Conf). k.link) (lawful g c).conf_is,
  ap (λ (s : State). s.links.unit) (sym (base_is g c)) ∙ c.law-2.ensures.unit
      ∙ ap (λ (s : State). s.conf.link) (base_is g c) ∙ ap (λ (k : Conf). k.link) (base_conf g c),
)

pub returns-clause-mode : goal.returns-clause-mode
returns-clause-mode g c =
    subst (λ (k : Conf). All (λ (e : Entry). FitsMode k.strict e.outcome) c.args.self.now.log) (base_conf g c)
    (run_fits c.args.self.now.log c.args.self.now.base c.args.self.now.state (lawful g c).replay)
