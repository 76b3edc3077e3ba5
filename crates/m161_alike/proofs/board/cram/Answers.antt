use Rattle.std.proofs.Common.{◌∙◌, ◌+◌, [], arith, length-set, take}
use Rattle.std.proofs.lemmas.List.{take_more_set}
use Rattle.std.specs.Prelude.{slice_index, slice_set}
use Rattle.m161_bus.specs.Board.{place_of}
use Rattle.m161_alike.proofs.Written.{numbers_more}
use Rattle.m161_alike.proofs.board.cram.Goals as goal

pub loop-i-preserved : goal.loop-i-preserved
loop-i-preserved g c =
    let word = c.board_word.result in
    let i = c.loop-i.i in
    record {
      size = length-set c.loop-i.words _ _ ∙ c.loop-i.invariant.size;
      so_far = numbers_more (slice_index (place_of c.args.p c.args.core.now.state.board).cram) [] (take i c.loop-i.words) (take (i + 1) (slice_set c.loop-i.words i word)) i word
          c.loop-i.invariant.so_far c.board_word.ensures
          (take_more_set c.loop-i.words i word (omega (arith, c.loop-i.invariant.size, c.loop-i-test.true)));
    }
