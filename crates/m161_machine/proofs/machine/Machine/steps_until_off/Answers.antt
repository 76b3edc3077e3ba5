use Rattle.std.proofs.Common.{◌∙◌, refl, subst, sym, arith, rules}
use Rattle.m161_machine.specs.declared.event.Event.TheVariants.{Step}
use Rattle.m161_machine.specs.Sound.{IsLawful}
use Rattle.m161_machine.proofs.Made.{log_fits}
use Rattle.m161_machine.proofs.Continuing.{continues_none, repeats_on}
use Rattle.m161_machine.proofs.machine.Machine.steps_until_off.Goals as goal

pub loop-made-init : goal.loop-made-init
loop-made-init g c = (
  continues_none c.args.self.now (log_fits c.args.self.now (subst IsLawful c.self.view_is c.self.invariant.0)),
  omega arith,
  refl,
  refl,
  c.requires.on,
  omega arith,
)

pub returns-then-is_off-clause-run : goal.returns-then-is_off-clause-run
returns-then-is_off-clause-run g c =
    repeats_on c.args.self.now c.loop-made.self c.steps_at_once-made.new.self c.loop-made.made c.steps_at_once-made.result (Step c.args.p)
    c.loop-made.invariant.0 c.steps_at_once-made.ensures.run

pub loop-made-preserved : goal.loop-made-preserved
loop-made-preserved g c =
    let i = c.loop-made.invariant in
    let off = sym c.is_off.ensures ∙ c.if-is_off.false in (
      repeats_on c.args.self.now c.loop-made.self c.steps_at_once-made.new.self c.loop-made.made c.steps_at_once-made.result (Step c.args.p)
          i.0 c.steps_at_once-made.ensures.run,
      (let one = c.steps_at_once-made.ensures.made in let before = i.1 in omega (arith, one, before)),
      c.steps_at_once-made.ensures.processors ∙ i.2,
      c.steps_at_once-made.ensures.run.slides.start_is ∙ i.3,
      off,
      search rules,
    )
