use Rattle.m161_reach.proofs.Advancing.{done_came}
use Rattle.m161_reach.proofs.advance.advance_done.Goals as goal

pub returns : goal.returns
returns g c = λ known.
    done_came c.args.goal.now known c.args.place.now c.take_done.new.place c.in_ok-made.made c.advanced_input.result c.in_ok-made.ensures c.advanced_input.ensures
