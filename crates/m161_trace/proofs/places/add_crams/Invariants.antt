use Rattle.std.proofs.Common.{string_bytes}
use Rattle.m161_trace.specs.helpers.Adds.{Adds}
use Rattle.m161_trace.specs.Items.{each}
use Rattle.m161_trace.specs.helpers.Adds.{crams_of}
use Rattle.m161_trace.proofs.places.add_crams.Given as goal

abbrev pub invariant-loop-c : goal.invariant-loop-c
invariant-loop-c g l = Adds (string_bytes l.fn.text) (each 0 l.c (crams_of l.before.state.board l.after.state.board)) (string_bytes l.text)
