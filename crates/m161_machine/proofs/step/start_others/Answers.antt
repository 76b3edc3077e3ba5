use Rattle.std.proofs.Common.{◌∙◌, rules}
use Rattle.std.proofs.lemmas.List.{length-set}
use Rattle.m161_machine.proofs.Starting.{started_more}
use Rattle.m161_machine.proofs.step.start_others.Goals as goal

pub loop-c-preserved : goal.loop-c-preserved
loop-c-preserved g c = (
  started_more c.args.before c.args.board.now.state c.loop-c.processors.items c.args.processors.now.items c.loop-c.c c.index_mut.result.now
      c.start_if_new.new.cpu (search rules) c.loop-c.invariant.0 c.index_mut.ensures.value c.start_if_new.ensures,
  length-set c.loop-c.processors.items c.loop-c.c c.start_if_new.new.cpu ∙ c.loop-c.invariant.1,
)
