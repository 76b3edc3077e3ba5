use Rattle.std.proofs.Common.{◌∙◌, ap, sym, arith, rules}
use Rattle.m161_machine.specs.declared.event.Event.TheVariants.{Step}
use Rattle.m161_machine.specs.State.{CoreValue, refusal}
use Rattle.m161_machine.specs.History.{History}
use Rattle.m161_machine.proofs.Continuing.{continues_none}
use Rattle.m161_machine.proofs.Accepting.{refused_by, refused_worn, refused_off}
use Rattle.m161_machine.proofs.machine.Machine.steps.Goals as goal

pub returns-then-n-eq0-clause-run : goal.returns-then-n-eq0-clause-run
returns-then-n-eq0-clause-run g c = let last = c.replay.ensures.last in continues_none c.args.self.now (omega (arith, last))

pub returns-in-Some-clause-run : goal.returns-in-Some-clause-run
returns-in-Some-clause-run g c = let last = c.replay.ensures.last in continues_none c.args.self.now (omega (arith, last))

pub returns-in-Some-clause-end : goal.returns-in-Some-clause-end
returns-in-Some-clause-end g c = (
  search rules,
  refused_by c.args.self.now.state (Step c.args.p) c.in-Some.refusal
      (ap (λ (h : History). refusal h.state (Step c.args.p)) (sym c.self.view_is)
      ∙ ap (λ (core : CoreValue). refusal core.state (Step c.args.p)) (sym c.deref.ensures)
      ∙ sym c.in-Some.ensures.value),
)

pub returns-then-is_off-clause-end : goal.returns-then-is_off-clause-end
returns-then-is_off-clause-end g c = (
  search rules,
  refused_off c.steps_until_off-made.new.self.state c.args.p (search rules) (sym c.is_off.ensures ∙ c.if-is_off.true),
)

pub returns-else-is_off-clause-end : goal.returns-else-is_off-clause-end
returns-else-is_off-clause-end g c = (
  search rules,
  refused_worn c.steps_until_off-made.new.self.state c.args.p (search rules) (sym c.is_off.ensures ∙ c.if-is_off.false) (search rules),
)
