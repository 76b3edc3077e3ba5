use Rattle.std.proofs.Common.{◌∙◌, sym, ap, rules, Err}
use Rattle.m161_cpu.proofs.Fetched.{unusable}
use Rattle.m161_cpu.proofs.processor.Cpu.fetch_elsewhere.Goals as goal

pub returns-then-is_unusable-clause-word : goal.returns-then-is_unusable-clause-word
returns-then-is_unusable-clause-word g c =
    ap Err c.of.ensures
    ∙ sym (unusable c.args.ram.now c.args.self.now c.reach_elsewhere.new.self c.in_ok-at.at (search rules) (search rules) (search rules))
