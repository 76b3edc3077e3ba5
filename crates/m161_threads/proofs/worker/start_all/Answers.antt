use Rattle.std.proofs.Common.{rules, ◌≡◌, ◌∙◌, ap, sym, ◌+◌, ◌<◌, false, length, get_or, drop, arith}
use Rattle.std.proofs.lemmas.List.{drop_more, get_or-drop, get_or_default}
use Rattle.m161_threads.specs.Shares.{SeatState}
use Rattle.m161_threads.specs.helpers.Work.{task_of}
use Rattle.m161_threads.proofs.Working.{each_more}
use Rattle.m161_threads.proofs.worker.start_all.Goals as goal

pub loop-i-preserved : goal.loop-i-preserved
loop-i-preserved g c =
    let i = c.loop-i.invariant in
    let seats = c.args.seats.items in
    let quotas = c.args.quotas.now in
    let inside : c.loop-i.i < length seats = omega (arith, c.loop-i-test.true, c.requires) in
    let none : c.loop-i.i + 0 ≡ c.loop-i.i = omega arith in
    let seat_is : (e : SeatState) → c.remove-seat.result ≡ get_or seats c.loop-i.i e = λ e.
    c.remove-seat.ensures.value
    ∙ ap (λ xs. get_or xs 0 c.remove-seat.result) i.rest
    ∙ get_or-drop c.loop-i.i seats 0 c.remove-seat.result
    ∙ ap (λ n. get_or seats n c.remove-seat.result) none
    ∙ get_or_default seats c.loop-i.i c.remove-seat.result e inside in
    let number = sym c.loop-i.handles.ok.0 ∙ i.len in
    record {
      len = search rules;
      room = search rules;
      rest = c.remove-seat.ensures.items ∙ ap (drop 1) i.rest
          ∙ ap (drop 1) (drop_more seats c.loop-i.i c.remove-seat.result inside);
      promised = λ k d e before.
          let last = c.in-Ok-spawn_with.ensures.ok
          ∙ (λ j. task_of (record {
            processor = (c.processor.ensures ∙ ap (λ (p : SeatState). p.processor) (seat_is e)) j;
            count = (c.count.ensures ∙ ap (λ (p : SeatState). p.count) (seat_is e)) j;
            noted = false;
          }) (get_or quotas c.loop-i.i 0)) in
          ap (λ hs. (get_or hs k d).promise) c.push_reserved.ensures.items
          ∙ each_more (λ h. h.promise) (λ n. task_of (get_or seats n e) (get_or quotas n 0))
          c.loop-i.handles.items c.in-Ok-spawn_with.handle c.loop-i.i number (λ n f h. i.promised n f e h) last k d before;
    }
