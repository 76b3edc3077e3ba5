use Rattle.std.proofs.Common.{◌≡◌, ◌∙◌, ap, sym, subst, ℕ, ◌<◌, Option, None, length, get_or, arith}
use Rattle.std.proofs.lemmas.List.{get_or-map, length-map}
use Rattle.m161_threads.specs.declared.worker.WorkerStop.{WorkerStop}
use Rattle.m161_threads.specs.Shares.{SeatState}
use Rattle.m161_threads.specs.helpers.Work.{Works}
use Rattle.m161_threads.proofs.Working.{with_some}
use Rattle.m161_threads.proofs.threaded.run_seats.Goals as goal

pub returns-clause-worked : goal.returns-clause-worked
returns-clause-worked g c =
    let all = c.in_ok-worked.worked.items in
    let ok = c.in_ok-worked.worked.ok.0 in
    let number : length all ≡ length c.args.quotas.now = sym ok ∙ c.in_ok-worked.ensures.len in
    let seats = c.in_ok-tally.tally.seats.items in
    let made = c.in_ok-tally.tally.counts.items in
    let seats_are = c.in_ok-tally.ensures.seats in
    let made_are = c.in_ok-tally.ensures.counts in
    record {
      seats_number = ap length seats_are ∙ length-map all (λ w. w.seat) ∙ number;
      made_number = ap length made_are ∙ length-map all (λ w. w.made) ∙ number;
      each = λ k d e inside.
          let there : k < length all = omega (arith, inside, number) in
          let p = (get_or c.args.seats.items k e).processor in
          let b = (get_or c.args.seats.items k e).count in
          let q = get_or c.args.quotas.now k 0 in
          with_some all k there (λ x.
          let seat_is : get_or seats k d ≡ (get_or all k x).seat =
          ap (λ xs. get_or xs k d) seats_are ∙ get_or-map (λ w. w.seat) all k x d there in
          let made_is : get_or made k 0 ≡ (get_or all k x).made =
          ap (λ xs. get_or xs k 0) made_are ∙ get_or-map (λ w. w.made) all k x 0 there in
          let none = c.in_ok-tally.ensures.none k x (omega (arith, there, ok)) in
          subst (λ (s : SeatState). Works p b q s (get_or made k 0) None) (sym seat_is)
          (subst (λ (m : ℕ). Works p b q (get_or all k x).seat m None) (sym made_is)
          (subst (λ (o : Option WorkerStop). Works p b q (get_or all k x).seat (get_or all k x).made o) none
          (c.in_ok-worked.ensures.each k x e inside))));
    }
