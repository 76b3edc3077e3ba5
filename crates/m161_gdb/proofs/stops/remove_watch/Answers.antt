use Rattle.std.proofs.Common.{rules}
use Rattle.std.proofs.lemmas.Fn.{filter_same}
use Rattle.std.specs.Prelude.{not}
use Rattle.m161_gdb.specs.Stops.{is_watch_of}
use Rattle.m161_gdb.proofs.stops.remove_watch.Goals as goal

pub returns : goal.returns
returns c =
    filter_same _ (λ w. not (is_watch_of c.args.kind c.args.address c.args.size w)) _ (λ x r f' k. search rules) _ _ c.retain.ensures.filtered
