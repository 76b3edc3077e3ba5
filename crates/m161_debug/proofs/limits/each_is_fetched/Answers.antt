use Rattle.std.proofs.Common.{◌≡◌, ◌∙◌, ◌+◌, ◌*◌, ap, arith, Bool, false, is_none, is_some, rules, sym, true, ℕ}
use Rattle.m161_cpu.specs.Fetch.{fetched_word}
use Rattle.m161_machine.specs.State.{processor_at}
use Rattle.m161_debug.proofs.Fetching.{and_fails, fails_at, none_there, passes_more, some_there}
use Rattle.m161_debug.proofs.limits.each_is_fetched.Goals as goal

pub returns-then-is_none : goal.returns-then-is_none
returns-then-is_none g c =
    let s = c.args.machine.now.state in
    let test : ℕ → Bool = λ i. is_some (fetched_word s.memory (c.args.address + 4 * i) (processor_at c.args.p s.processors)) in
    let none : is_none c.fetched_word.result ≡ true = search rules in
    let here : test c.loop-i.i ≡ false = ap is_some (sym c.fetched_word.ensures) ∙ none_there c.fetched_word.result none in
    and_fails _ _ (fails_at test c.args.n c.loop-i.i (omega arith) here)

pub loop-i-preserved : goal.loop-i-preserved
loop-i-preserved g c =
    let s = c.args.machine.now.state in
    let test : ℕ → Bool = λ i. is_some (fetched_word s.memory (c.args.address + 4 * i) (processor_at c.args.p s.processors)) in
    let some : is_none c.fetched_word.result ≡ false = search rules in
    let here : test c.loop-i.i ≡ true = ap is_some (sym c.fetched_word.ensures) ∙ some_there c.fetched_word.result some in
    passes_more test c.loop-i.i c.loop-i.invariant here
