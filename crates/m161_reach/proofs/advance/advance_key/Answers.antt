use Rattle.std.specs.Prelude.{slice_get}
use Rattle.m161_reach.proofs.Advancing.{key_came}
use Rattle.m161_reach.proofs.advance.advance_key.Goals as goal

pub returns : goal.returns
returns g c = λ known.
    key_came c.args.goal.now known c.args.place.now c.take_key.new.place (slice_get c.args.goal.now.keys c.args.place.now.typed) c.in_ok-made.made
    c.advanced_input.result c.in_ok-made.ensures c.advanced_input.ensures
