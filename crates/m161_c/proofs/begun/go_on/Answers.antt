use Rattle.std.proofs.Common.{subst}
use Rattle.std.specs.Prelude.{option_map}
use Rattle.m161_judge.specs.Judge.{bytes_of}
use Rattle.m161_c.specs.Begun.{Begun}
use Rattle.m161_c.specs.Explored.{IsExplored}
use Rattle.m161_c.proofs.Beginning.{is_explored, same_criteria}
use Rattle.m161_c.proofs.begun.go_on.Goals as goal

pub returns-in_ok-found-in-Some : goal.returns-in_ok-found-in-Some
returns-in_ok-found-in-Some c =
    let i = c.begun.inside in
    let b : Begun = record {
      boot = i.boot.state;
      goal = record { watches = i.watches.items; never = i.never.items; output = option_map (λ bytes. bytes.items) i.output; keys = i.keys.items };
      limit = i.limit;
      exploring = i.exploring;
    } in
    let same = same_criteria b.goal c.deref.result.now c.deref-2.result.now (bytes_of c.slice_of-asked.result) c.deref-3.result.now
    c.deref.ensures.value c.deref-2.ensures.value c.slice_of-asked.ensures c.deref-3.ensures.value in
    let found = c.in_ok-found-in-Some.found in
    let events = c.in_ok-found-in-Some.events.items in
    subst (λ (x : Begun). IsExplored x.boot x.limit x.goal found events) c.begun.view_is
    (is_explored b _ c.args.number c.go_on_machine.new.exploring c.in_ok-answer.field-0 c.in-Some.answer found events c.begun.invariant same c.in_ok-answer.ensures c.in-Some.is c.in_ok-found-in-Some.ensures)
