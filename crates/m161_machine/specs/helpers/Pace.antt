use Rattle.m161_cpu.specs.declared.processor.Outcome.{Outcome}
use Rattle.m161_cpu.specs.declared.processor.Outcome.TheVariants.{Ran}
use Rattle.m161_machine.specs.declared.step.Pace.{Pace}
use Rattle.m161_machine.specs.declared.step.Pace.TheVariants.{Quiet, Aside}

abbrev pub outcome_of : Pace → Outcome
outcome_of Quiet = Ran
outcome_of (Aside outcome) = outcome
