use Rattle.std.proofs.Common.{◌≡◌, ◌∙◌, ap, sym, arith, ◌++◌, length, take}
use Rattle.std.specs.Prelude.{flat_map}
use Rattle.std.proofs.Math.Seq.{take-length}
use Rattle.m161_alike.specs.Words.{word_change}
use Rattle.m161_alike.proofs.Covering.{words_at_addresses}
use Rattle.m161_alike.proofs.words.push_changes.Goals as goal

pub returns-clause-ok : goal.returns-clause-ok
returns-clause-ok c =
    let boot = c.args.boot.now in
    let memory = c.args.memory.now in
    let addresses = c.args.addresses.now in
    let old = c.args.out.now.items in
    c.loop-i.invariant
    ∙ ap (λ l. old ++ flat_map (word_change boot memory) l)
    (ap (λ n. take n addresses) (let is : c.loop-i.i ≡ length addresses = omega (arith, c.loop-i-test.false, c.loop-i.auto.i-end) in is) ∙ take-length addresses)
    ∙ ap (λ l. old ++ l) (sym (words_at_addresses boot memory addresses c.requires.cover))
