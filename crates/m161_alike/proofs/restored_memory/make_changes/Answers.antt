use Rattle.std.proofs.Common.{◌∙◌, ap, sym, ◌+◌, arith, drop}
use Rattle.m161_machine.specs.State.{State}
use Rattle.m161_machine.specs.Restore.{with_memory}
use Rattle.m161_alike.specs.RestoredMemory.{with_changes}
use Rattle.m161_alike.proofs.RestoringMemory.{none_left, two_more}
use Rattle.m161_alike.proofs.restored_memory.make_changes.Goals as goal

pub loop-place-preserved : goal.loop-place-preserved
loop-place-preserved g c =
    let words = c.args.words.now in
    let place = c.loop-place.place in
    let old = c.args.core.now.state in
    let inv = c.loop-place.invariant in
    let made = c.make_change.ensures.state in
    let memory_is = ap (λ (s : State). s.memory) made in (
      omega arith,
      ap (with_changes (drop (place + 2) words)) memory_is
          ∙ sym (ap (λ l. with_changes l c.loop-place.core.state.memory) (two_more words place (omega arith)))
          ∙ inv.1,
      made ∙ ap (with_memory _) inv.2 ∙ sym (ap (λ m. with_memory m old) memory_is),
      c.make_change.ensures.room ∙ inv.3,
    )

pub returns-clause-state : goal.returns-clause-state
returns-clause-state g c =
    let words = c.args.words.now in
    let old = c.args.core.now.state in
    let inv = c.loop-place.invariant in
    let memory = c.loop-place.core.state.memory in
    inv.2 ∙ ap (λ m. with_memory m old) (sym (none_left words memory c.loop-place.place (omega arith)) ∙ inv.1)
