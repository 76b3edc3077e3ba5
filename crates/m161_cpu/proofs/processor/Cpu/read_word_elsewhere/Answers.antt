use Rattle.std.proofs.Common.{◌∙◌, sym, ap, rules, Err}
use Rattle.m161_cpu.proofs.Slots.{not_read, outside}
use Rattle.m161_cpu.proofs.processor.Cpu.read_word_elsewhere.Goals as goal

pub returns-in-Err-clause-word : goal.returns-in-Err-clause-word
returns-in-Err-clause-word g c = (
  outside _ c.args.address c.args.c c.in_ok-at.at _ _ _ c.in-Err.field-0 (sym c.in_ok-at.ensures.value)
      (search rules) c.in-Err.ensures.read
      ∙ sym (ap Err c.bus_error.ensures),
  (not_read _ _ _ _ c.in-Err.ensures.read).1,
)
