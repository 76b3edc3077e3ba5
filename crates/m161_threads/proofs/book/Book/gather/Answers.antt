use Rattle.std.proofs.Common.{◌≡◌, ◌∙◌, ap, true, [], ◌∷◌, arith}
use Rattle.std.proofs.lemmas.List.{length-append}
use Rattle.std.proofs.lemmas.List.Elements.{All-push}
use Rattle.std.proofs.lemmas.List.Sums.{sum_by_push}
use Rattle.m161_threads.specs.Shares.{SeatState}
use Rattle.m161_threads.proofs.Seating.{marked}
use Rattle.m161_threads.proofs.book.Book.gather.Goals as goal

pub loop-seat-preserved : goal.loop-seat-preserved
loop-seat-preserved g c =
    let i = c.loop-seat.invariant in
    let one = c.seat.invariant.0 in
    let count = c.seat.invariant.1 in
    let mark = c.seat.invariant.3 in
    let parts_left = c.merge.ensures.parts in
    let amount_left = c.merge.ensures.amount in
    let more = length-append c.loop-seat.yielded (c.in-Some.seat ∷ []) in
    let sum_more = sum_by_push (λ (s : SeatState). s.count) c.loop-seat.yielded c.in-Some.seat in
    let count_is = ap (λ (s : SeatState). s.count) c.seat.view_is in
    let noted_is = ap (λ (s : SeatState). s.noted) c.seat.view_is in
    let bound = c.audit-in-loop-seat.ensures.bound in
    let total = c.audit-in-loop-seat.ensures.total in
    record {
      parts = omega (arith, i.parts, one, parts_left, more);
      amount = omega (arith, i.amount, count, amount_left, sum_more, count_is);
      noted = All-push (λ (s : SeatState). s.noted ≡ true → c.loop-seat.self-inside.machine.state.board.off ≡ true)
          c.loop-seat.yielded c.in-Some.seat i.noted
          (λ noted. i.kept.1 (marked c.seat.inside.noted c.seat.inside.off.amount c.loop-seat.self-inside.offs.total mark bound (noted_is ∙ noted)));
      machine = i.machine;
      kept = (i.kept.0, λ some. i.kept.1 (omega (arith, some, total)));
    }
