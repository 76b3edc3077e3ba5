use Rattle.m161_shorten.proofs.Swaps.{put_swapped}
use Rattle.m161_shorten.proofs.ranges.swap_in.Goals as goal

pub returns : goal.returns
returns c =
    put_swapped c.args.a c.args.b c.args.c c.args.events.now c.rotate_left.new.self c.requires.first c.requires.second c.requires.within c.rotate_left.ensures.after
