use Rattle.std.proofs.Common.{◌≡◌, ◌∙◌, ap, refl}
use Rattle.m161_elf.specs.Image.{first_fault}
use Rattle.m161_display.specs.Shows.{show_regs_text}
use Rattle.s161_run.specs.Demos.{demo_conf, demo_image}
use Rattle.s161_base.proofs.Asking.{says_err}
use Rattle.s161_base.specs.declared.fault.Fault.TheVariants.{Memory}
use Rattle.s161_run.proofs.Failing.{only_memory}
use Rattle.s161_run.proofs.demo.demo.Goals as goal

-- the image has no fault, so a boot fails only for want of memory
pub returns-in_err-machine-clause-err : goal.returns-in_err-machine-clause-err
unfolding first_fault demo_image
returns-in_err-machine-clause-err c =
    says_err (λ fault. fault ≡ Memory) c.from_residual.result c.from_residual.ensures.1
    (only_memory demo_image demo_conf c.in_err-machine.field-0.0 refl c.in_err-machine.ensures.fault)

-- the static's bytes are those of the written file
pub returns-clause-ok : goal.returns-clause-ok
unfolding demo_image
returns-clause-ok c = record {
  booted = c.in_ok-machine.machine;
  boots = c.in_ok-machine.ensures.ok;
  made = c.steps.result.0;
  refusal = c.steps.result.1;
  machine = c.steps.new.self;
  makes = c.steps.ensures.run;
  ends = c.steps.ensures.end;
  text_is = c.in_ok-show_regs.ensures ∙ ap (show_regs_text 0) c.core.ensures;
}
