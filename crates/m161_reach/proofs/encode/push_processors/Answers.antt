use Rattle.m161_alike.specs.WordsLaw.{words_at}
use Rattle.m161_alike.proofs.Written.{pieces_more}
use Rattle.m161_reach.proofs.encode.push_processors.Goals as goal

pub loop-p-preserved : goal.loop-p-preserved
loop-p-preserved g c =
    pieces_more (words_at c.args.known.now c.args.core.now.state) c.args.words.now.items c.loop-p.words.items c.write_processor.new.out.items c.loop-p.p
    c.loop-p.invariant c.in_ok-write_processor.ensures.ok
