use Rattle.std.proofs.Common.{sym, rules}
use Rattle.m161_cpu.proofs.Used.{elsewhere_fetched, elsewhere_not_located, elsewhere_outside, elsewhere_unusable}
use Rattle.m161_cpu.proofs.processor.Cpu.fetched.Goals as goal

pub returns-in_default : goal.returns-in_default
returns-in_default g c = elsewhere_not_located c.args.ram.now c.args.self.now c.pc.result c.in_default.field-0 c.pc.ensures (sym c.in_default.ensures)

pub returns-then-from : goal.returns-then-from
returns-then-from g c = elsewhere_outside c.args.ram.now c.args.self.now c.pc.result c.in-Ok.to c.via_row-fetch.result c.pc.ensures (sym c.in-Ok.ensures) (search rules) (search rules)

pub returns-then-is_unusable : goal.returns-then-is_unusable
returns-then-is_unusable g c =
    elsewhere_unusable c.args.ram.now c.args.self.now c.pc.result c.in-Ok.to c.via_row-fetch.result c.pc.ensures (sym c.in-Ok.ensures) (search rules) (search rules) (search rules)

pub returns : goal.returns
returns g c =
    elsewhere_fetched c.args.ram.now c.args.self.now c.pc.result c.word-word.result c.in-Ok.to c.via_row-fetch.result c.pc.ensures (sym c.in-Ok.ensures) (search rules) (search rules) c.word-word.ensures (search rules)
