use Rattle.std.proofs.Common.{◌≡◌, ◌∙◌, ap, arith}
use Rattle.m161_machine.specs.State.{processor_at}
use Rattle.m161_reach.specs.helpers.Path.{with_registers}
use Rattle.m161_reach.proofs.path.mix_registers.Goals as goal

pub returns : goal.returns
returns g c =
    let end : c.loop-r.r ≡ 32 = let within = c.loop-r.auto.r-end in let past = c.loop-r-test.false in omega (arith, within, past) in
    c.loop-r.invariant ∙ ap (with_registers c.args.mark (processor_at c.args.p c.args.core.now.state.processors).registers) end
