use Rattle.std.proofs.Common.{◌∙◌, ◌+◌, [], ap, arith, length-set, take}
use Rattle.std.proofs.lemmas.List.{take_more_set}
use Rattle.std.specs.Prelude.{slice_index, slice_set}
use Rattle.m161_machine.specs.State.{processor_at}
use Rattle.m161_alike.proofs.Written.{numbers_more, numbers_whole}
use Rattle.m161_alike.proofs.processor.registers.Goals as goal

pub loop-r-preserved : goal.loop-r-preserved
loop-r-preserved g c =
    let registers = (processor_at c.args.p c.args.core.now.state.processors).registers in
    let r = c.loop-r.r in
    record {
      size = length-set c.loop-r.words _ _ ∙ c.loop-r.invariant.size;
      so_far = numbers_more (slice_index registers) [] (take r c.loop-r.words) (take (r + 1) (slice_set c.loop-r.words r c.reg.result)) r c.reg.result
          c.loop-r.invariant.so_far (c.reg.ensures.value ∙ ap (slice_index registers) c.new.ensures)
          (take_more_set c.loop-r.words r c.reg.result (omega (arith, c.loop-r.invariant.size, c.loop-r-test.true)));
    }

pub returns : goal.returns
returns g c =
    numbers_whole (slice_index (processor_at c.args.p c.args.core.now.state.processors).registers) c.loop-r.words c.loop-r.r 32
    (omega arith) c.loop-r.invariant.size c.loop-r.invariant.so_far
