use Rattle.std.proofs.Common.{string_bytes}
use Rattle.m161_trace.specs.helpers.Adds.{Adds}
use Rattle.m161_bus.specs.declared.register.BoardWord.TheVariants as words
use Rattle.m161_trace.specs.Items.{board_item, each}
use Rattle.m161_trace.proofs.places.add_cram.Given as goal

abbrev pub invariant-loop-k : goal.invariant-loop-k
invariant-loop-k g l = Adds (string_bytes l.fn.text) (each 0 l.k (λ k. board_item l.before.state.board l.after.state.board (words.Cram l.c k))) (string_bytes l.text)
