use Rattle.std.proofs.Common.{string_bytes}
use Rattle.m161_trace.specs.helpers.Adds.{Adds}
use Rattle.m161_bus.specs.declared.register.BoardWord.TheVariants as words
use Rattle.m161_trace.specs.Items.{board_item, each}
use Rattle.m161_trace.proofs.places.add_enables.Given as goal

abbrev pub invariant-loop-c : goal.invariant-loop-c
invariant-loop-c g l = Adds (string_bytes l.fn.text) (each 0 l.c (λ c. board_item l.before.state.board l.after.state.board (words.Cirqe c))) (string_bytes l.text)
