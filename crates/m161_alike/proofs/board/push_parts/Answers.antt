use Rattle.m161_alike.specs.Words.{part_words}
use Rattle.m161_alike.proofs.Written.{pieces_more}
use Rattle.m161_alike.proofs.board.push_parts.Goals as goal

pub loop-p-preserved : goal.loop-p-preserved
loop-p-preserved g c =
    pieces_more (part_words c.args.core.now.state) c.args.out.now.items c.loop-p.out.items c.push_part.new.out.items c.loop-p.p
    c.loop-p.invariant c.in_ok-push_part.ensures.ok
