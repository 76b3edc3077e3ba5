use Rattle.std.proofs.Common.{rules, ◌≡◌, ◌∙◌, refl, ap, sym, ◌<◌, length, List, [], ◌∷◌, ◌++◌, get_or, arith}
use Rattle.std.proofs.lemmas.List.{length-map}
use Rattle.std.proofs.lemmas.List.Sums.{sum_by_more}
use Rattle.m161_cpu.specs.Processor.{Processor}
use Rattle.m161_machine.specs.State.{counts}
use Rattle.m161_machine.proofs.Counting.{count_at}
use Rattle.m161_threads.specs.Shares.{SeatState, new_seat}
use Rattle.m161_threads.proofs.Seating.{places_more}
use Rattle.m161_threads.proofs.locked.Locked.new.Goals as goal

pub push_reserved-requires : goal.push_reserved-requires
push_reserved-requires g c =
    let i = c.loop-processor.invariant in
    omega (arith, i.len, i.room, i.end, c.loop-processor-test.true)

pub loop-processor-preserved : goal.loop-processor-preserved
loop-processor-preserved g c =
    let i = c.loop-processor.invariant in
    let ps = c.args.machine.state.processors in
    let cs = counts c.args.machine.state in
    let p = c.loop-processor.processor in
    let size = length-map ps (λ (q : Processor). q.count) in
    let inside : p < length cs = omega (arith, size, i.end, c.loop-processor-test.true) in
    let count_is : c.count-count.result ≡ get_or cs p 0 = c.count-count.ensures ∙ sym (count_at ps p) in
    let more = sum_by_more (λ x. x) cs p 0 inside in
    let total = c.add.ensures.total in
    let steps_left = c.split_off-mine.ensures.parts_left in
    let counted_left = c.split_off-mine.ensures.amount_left in
    let offs_left = c.split_off.ensures.parts_left in
    let noted_left = c.split_off.ensures.amount_left in
    record {
      machine = refl;
      end = i.end;
      steps_left = omega (arith, i.steps_left, steps_left);
      none_counted = omega (arith, i.none_counted, counted_left);
      offs_left = omega (arith, i.offs_left, offs_left);
      none_noted = omega (arith, i.none_noted, noted_left);
      total = omega (arith, i.total, total, count_is, more);
      off_total = i.off_total;
      room = search rules;
      len = search rules;
      seats = c.push_reserved.ensures.items
          ∙ ap (λ (xs : List SeatState). xs ++ new_seat p c.count-count.result ∷ []) i.seats
          ∙ sym (places_more cs p c.count-count.result inside count_is);
    }
