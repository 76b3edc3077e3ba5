use Rattle.std.proofs.Common.{◌≡◌, ◌∙◌, ap, sym, subst, arith, ◌+◌, ◌≤◌, ◌<◌, ℕ, List, drop, get_or, length}
use Rattle.m161_machine.specs.State.{State}
use Rattle.m161_machine.specs.Restore.{with_memory}
use Rattle.m161_ram.specs.Word.{with_word, word_at}
use Rattle.m161_alike.proofs.Covering.{whole_at}
use Rattle.m161_alike.proofs.RestoringMemory.{AreLeft, left_less, none_more, same_length}
use Rattle.m161_alike.proofs.restored_memory.reset.Goals as goal

pub loop-i-preserved : goal.loop-i-preserved
loop-i-preserved g c =
    let boot = c.args.boot.now in
    let addresses = c.args.addresses.now in
    let i = c.loop-i.i in
    let memory = c.loop-i.core.state.memory in
    let old = c.args.core.now.state in
    let inv = c.loop-i.invariant in
    let inside : i < length addresses = omega (arith, c.loop-i-test.true) in
    let p = get_or addresses i 0 in
    let within : p + 4 ≤ length boot = (let w = c.requires.cover.within i 0 inside in let size = c.requires.size in omega (arith, w, size)) in
    let made : c.restore_word.new.self.state ≡ with_memory (with_word memory p (word_at boot p)) c.loop-i.core.state =
    c.restore_word.ensures.state ∙ ap (λ w. with_memory (with_word memory p w) c.loop-i.core.state) c.word_of.ensures in
    let memory_is = ap (λ (s : State). s.memory) made in (
      ap length memory_is ∙ same_length memory p (word_at boot p) ∙ inv.0,
      subst (λ (m : List ℕ). AreLeft boot m (drop (i + 1) addresses)) (sym memory_is)
          (left_less boot memory addresses i inside inv.1 inv.0 (whole_at 0 addresses i 0 c.requires.cover.rise inside) within),
      made ∙ ap (with_memory _) inv.2 ∙ sym (ap (λ m. with_memory m old) memory_is),
      c.restore_word.ensures.room ∙ inv.3,
    )

pub is_boot-requires-clause-same : goal.is_boot-requires-clause-same
is_boot-requires-clause-same g c =
    let boot = c.args.boot.now in
    let inv = c.loop-i.invariant in
    let memory_is = c.memory.ensures in
    λ at al inside.
    ap (λ (m : List ℕ). word_at m at) memory_is
    ∙ inv.1 at al (let size = ap length memory_is ∙ inv.0 in omega (arith, inside, size))
    (λ h. none_more at c.args.addresses.now c.loop-i.i (omega (arith, c.loop-i-test.false)) h)
