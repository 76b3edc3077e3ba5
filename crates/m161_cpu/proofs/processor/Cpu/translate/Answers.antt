use Rattle.std.proofs.Common.{rules, sym}
use Rattle.m161_cpu.proofs.KeptRows.{translated_gives}
use Rattle.m161_cpu.proofs.processor.Cpu.translate.Goals as goal

pub keep-requires-clause-found : goal.keep-requires-clause-found
keep-requires-clause-found g c =
    translated_gives c.args.access c.args.width c.args.address c.args.self.now c.in_ok-to.to (search rules) (sym c.in_ok-to.ensures)
