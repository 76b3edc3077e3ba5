use Rattle.std.proofs.Common.{rules}
use Rattle.std.proofs.lemmas.Fn.{filter_same}
use Rattle.std.specs.Prelude.{not}
use Rattle.m161_gdb.specs.Stops.{is_breakpoint}
use Rattle.m161_gdb.proofs.stops.remove_breakpoint.Goals as goal

pub returns : goal.returns
returns c = filter_same _ (λ b. not (is_breakpoint c.args.kind c.args.address b)) _ (λ x r f' k. search rules) _ _ c.retain.ensures.filtered
