use Rattle.std.proofs.Common.{◌≡◌, ◌+◌, ◌*◌, is_some, true}
use Rattle.std.specs.List.{list_all, range_with_len}
use Rattle.m161_cpu.specs.Fetch.{fetched_word}
use Rattle.m161_machine.specs.State.{processor_at}
use Rattle.m161_debug.proofs.limits.each_is_fetched.Given as goal

-- the words so far can be fetched
abbrev pub invariant-loop-i : goal.invariant-loop-i
invariant-loop-i g l =
    list_all (λ i. is_some (fetched_word l.machine.state.memory (l.address + 4 * i) (processor_at l.p l.machine.state.processors))) (range_with_len 0 l.i) ≡ true
