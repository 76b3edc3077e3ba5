use Rattle.std.proofs.Common.{◌≡◌, ◌∙◌, ap, arith, drop, length, take}
use Rattle.m161_machine.specs.State.{State}
use Rattle.m161_machine.specs.Restore.{with_board_parts}
use Rattle.m161_alike.specs.RestoredBoard.{part_at, waiting_in}
use Rattle.m161_alike.proofs.RestoringBoard.{based, places_size, waiting_put}
use Rattle.m161_alike.proofs.restored_board.put_board.Goals as goal

pub loop-p-init : goal.loop-p-init
loop-p-init g c =
    let words = c.args.words.now in
    let old = c.args.core.now.state in
    let number_is = c.processors.ensures in
    let waiting_is : take c.min-number.result c.copy_bytes.new.bytes ≡ waiting_in (take 256 (drop (part_at (length old.processors)) words)) =
    waiting_put words c.copy_bytes.new.bytes (part_at c.processors.result) c.min-number.result (omega arith) c.min-number.ensures c.copy_bytes.ensures.first
    ∙ ap (λ m. waiting_in (take 256 (drop (part_at m) words))) number_is in (
      c.restore_board.ensures.state
          ∙ (λ i. with_board_parts (c.board_of.ensures i) (waiting_is i) (c.conflict_of.ensures i) old),
      c.restore_board.ensures.room,
    )

pub restore_place-requires-clause-place : goal.restore_place-requires-clause-place
restore_place-requires-clause-place g c =
    let now = ap (λ (s : State). length s.processors) c.loop-p.invariant.0 in
    let same = places_size c.loop-p.p c.args.words.now (based c.args.words.now c.args.core.now.state) in
    let before = ap (λ (s : State). length s.processors) c.restore_board.ensures.state in
    let end = c.processors-p-end.ensures in
    omega (arith, now, same, before, end)
