use Rattle.std.proofs.Common.{◌≡◌, ◌∙◌, ap, sym, subst, ◌+◌, ◌++◌, ◌∷◌, [], take, Some, length, ◌<◌, arith}
use Rattle.std.proofs.lemmas.List.{take_more}
use Rattle.m161_threads.specs.Shares.{SeatState}
use Rattle.m161_threads.specs.helpers.Shares.{Miscounts, least_of}
use Rattle.m161_threads.proofs.Seating.{matched_more, wrong_more}
use Rattle.m161_threads.proofs.locked.least_wrong.Goals.{then-not-matches, else-not-matches}
use Rattle.m161_threads.proofs.locked.least_wrong.Goals as goal

pub loop-i-preserved : goal.loop-i-preserved
loop-i-preserved g c =
    let s = c.args.book.now.machine.state in
    let seats = c.args.seats.now.items in
    let inside : c.loop-i.i < length seats = omega (arith, c.loop-i-test.true, c.len-i-end.ensures) in
    let seat = c.index-seat.result.now in
    let more : take (c.loop-i.i + 1) seats ≡ take c.loop-i.i seats ++ seat ∷ [] =
    take_more seats c.loop-i.i seat inside ∙ ap (λ x. take c.loop-i.i seats ++ x ∷ []) (sym c.index-seat.ensures) in
    elim c.if-not-matches.branch [
      | then-not-matches w ↦
          (let last : c.if-not-matches.least ≡ Some (least_of c.loop-i.least seat.processor) =
          w.least-is
          ∙ ap (λ n. Some n)
          (w.least_of.ensures ∙ ap (λ (p : SeatState). least_of c.loop-i.least p.processor) c.seat.view_is) in
          subst (λ least. Miscounts s (take (c.loop-i.i + 1) seats) least) (sym last)
          (subst (λ xs. Miscounts s xs (Some (least_of c.loop-i.least seat.processor))) (sym more)
          (wrong_more s (take c.loop-i.i seats) c.loop-i.least seat c.loop-i.invariant
          (c.matches.ensures.no w.if-not-matches.true))))
      | else-not-matches w ↦
          subst (λ least. Miscounts s (take (c.loop-i.i + 1) seats) least) (sym w.least-is)
          (subst (λ xs. Miscounts s xs c.loop-i.least) (sym more)
          (matched_more s (take c.loop-i.i seats) c.loop-i.least seat c.loop-i.invariant (c.matches.ensures.yes w.if-not-matches.false)))
    ]
