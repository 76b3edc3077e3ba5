use Rattle.std.proofs.Common.{◌≡◌}
use Rattle.m161_elf.specs.Span.{spans_among}
use Rattle.m161_elf.proofs.loader.loads.Given as goal

abbrev pub invariant-loop-i : goal.invariant-loop-i
invariant-loop-i l = l.spans.items ≡ spans_among l.file l.i
