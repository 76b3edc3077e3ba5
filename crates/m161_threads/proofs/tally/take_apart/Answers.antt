use Rattle.std.proofs.Common.{rules, ◌∙◌, refl, ap, sym, None, [], ◌∷◌, ◌++◌, length, arith}
use Rattle.std.proofs.lemmas.List.{append_assoc, length-append, map_push}
use Rattle.m161_threads.proofs.Working.{each_more}
use Rattle.m161_threads.proofs.tally.take_apart.Goals as goal

pub loop-worked-preserved : goal.loop-worked-preserved
loop-worked-preserved g c =
    let i = c.loop-worked.invariant in
    let before = c.loop-worked.yielded in
    let worked = c.in-Some.worked in
    record {
      seats = c.push_reserved.ensures.items ∙ ap (λ xs. xs ++ worked.seat ∷ []) i.seats ∙ sym (map_push (λ w. w.seat) before worked);
      counts = c.push_reserved-in-loop-worked.ensures.items ∙ ap (λ xs. xs ++ worked.made ∷ []) i.counts ∙ sym (map_push (λ w. w.made) before worked);
      none = λ k d inside.
          let more = length-append before (worked ∷ []) in
          each_more (λ w. w.stop) (λ _. None) before worked (length before) refl i.none c.in_default-stop.is k d (omega (arith, inside, more));
      seats_room = search rules;
      counts_room = search rules;
      rest = i.rest ∙ ap (λ xs. before ++ xs) c.in-Some.ensures.steps.0 ∙ sym (append_assoc before (worked ∷ []) c.next.new.self.rest.items);
    }
