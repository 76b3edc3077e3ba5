use Rattle.std.proofs.Common.{◌≡◌, flat_map, string_bytes}
use Rattle.std.specs.List.{range_with_len}
use Rattle.m161_display.specs.Shows.{where_text}
use Rattle.m161_display.proofs.started.show_where.Given as goal

abbrev pub invariant-loop-p : goal.invariant-loop-p
invariant-loop-p g l =
    string_bytes l.text ≡ flat_map (where_text l.style l.core.state) (range_with_len 0 l.p)
