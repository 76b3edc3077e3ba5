use Rattle.std.proofs.Common.{◌≡◌, ◌∙◌, ap, sym, subst, ℕ, ◌+◌, ◌*◌, ◌^◌, ◌<◌, arith, List, ◌++◌, length, get_or, Option, None, Some}
use Rattle.std.specs.Prelude.{All, IfSome, flat_map, slice_index}
use Rattle.std.specs.List.{range_with_len}
use Rattle.std.proofs.lemmas.List.{get_or_default, length-drop}
use Rattle.m161_tlb.specs.declared.row.Row.{Row as TlbRow}
use Rattle.m161_tlb.specs.Rows.{blank_row}
use Rattle.m161_bus.specs.Board.{BoardState}
use Rattle.m161_cpu.specs.Processor.{Processor}
use Rattle.m161_machine.specs.declared.event.Conflict.{Conflict}
use Rattle.m161_alike.specs.View.{processor_view}
use Rattle.m161_alike.specs.Words.{HasSizes, board_words, flag, part_words, processor_words}
use Rattle.m161_alike.specs.Restored.{IsRow}
use Rattle.m161_alike.specs.RestoredBoard.{part_at}
use Rattle.m161_alike.specs.Bounds.{BoardBoundsLaw, BoundsLaw, IsBoardBounded, IsBounded}
use Rattle.m161_alike.proofs.Restoring.{word_of_row}
use Rattle.m161_alike.proofs.RestoringBoard.{head, rest_back}
use Rattle.m161_alike.proofs.TimelessStep.{seen_twice}

-- What the bounds of words say of what they hold.

-- a row of the TLB
row_held : (v : Processor) (k : ℕ) (d : TlbRow) → HasSizes v → IsBounded (processor_words v) → k < length v.rows → IsRow (get_or v.rows k d)
row_held v k d sizes b inside =
    let size = sizes.1 in
    let below : k < 64 = omega (arith, inside, size) in
    let r = get_or v.rows k blank_row in
    let h = b.rows k below in
    let page_is : slice_index (processor_words v) (53 + 3 * k) ≡ r.page = word_of_row v k 0 (53 + 3 * k) below (omega arith) (omega arith) in
    let frame_is : slice_index (processor_words v) (54 + 3 * k) ≡ r.frame = word_of_row v k 1 (54 + 3 * k) below (omega arith) (omega arith) in
    let rest_is : slice_index (processor_words v) (55 + 3 * k) ≡ r.id * 16 + (flag r.n * 8 + flag r.d * 4 + flag r.v * 2 + flag r.g) =
    word_of_row v k 2 (55 + 3 * k) below (omega arith) (omega arith) in
    let page_small = h.0 in
    let frame_small = h.1 in
    let rest_small = h.2 in
    subst IsRow (get_or_default v.rows k blank_row d inside) (record {
      page = omega (arith, page_is, page_small);
      id = omega (arith, rest_is, rest_small);
      frame = omega (arith, frame_is, frame_small);
    })

pub bounds_law : BoundsLaw
bounds_law known p words sizes is bounded =
    let v = processor_view known p in
    let b : IsBounded (processor_words v) = subst IsBounded is bounded in
    record {
      held = record {
        sizes = sizes;
        zero = b.control.zero;
        lowest = b.control.lowest;
        highest = b.control.highest;
        unit = b.control.unit;
        code = b.control.code;
        software = b.control.software;
        rows = λ k d inside. row_held v k d sizes b inside;
      };
      words_are = is ∙ ap processor_words (sym (seen_twice known p));
    }

-- a board

latch_held : (b : BoardState) (latch : Option ℕ) (conflict : Option Conflict) (rest : List ℕ) → slice_index (head b latch conflict rest) 6 < 2 ^ 8 →
    IfSome latch (λ byte. byte < 2 ^ 8)
latch_held b None conflict rest h = tt
latch_held b (Some byte) conflict rest h = h

conflict_held : (b : BoardState) (latch : Option ℕ) (conflict : Option Conflict) (rest : List ℕ) →
    slice_index (head b latch conflict rest) 9 < 2 ^ 8 → slice_index (head b latch conflict rest) 10 < 2 ^ 8 →
    IfSome conflict (λ c. (c.row < 2 ^ 8) × (c.other < 2 ^ 8))
conflict_held b None None rest h k = tt
conflict_held b (Some byte) None rest h k = tt
conflict_held b None (Some c) rest h k = (h, k)
conflict_held b (Some byte) (Some c) rest h k = (h, k)

pub board_bounds_law : BoardBoundsLaw
board_bounds_law s words is bounded =
    let n = s.board.processors in
    let b : IsBoardBounded (board_words s) n = subst (λ l. IsBoardBounded l n) is bounded in
    let rest = flat_map (part_words s) (range_with_len 0 n) ++ s.board.console.waiting in
    let long = length-drop (part_at n) (board_words s) in
    let same = ap length (rest_back s) in
    let few = b.few in
    record {
      latch = latch_held s.board s.board.console.latch s.conflict rest b.latch;
      few = omega (arith, long, same, few);
      waiting = subst (All (λ byte. byte < 2 ^ 8)) (rest_back s) b.waiting;
      conflict = conflict_held s.board s.board.console.latch s.conflict rest b.row b.other;
    }
