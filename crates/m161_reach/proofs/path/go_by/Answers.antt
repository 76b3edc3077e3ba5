use Rattle.std.proofs.Common.{◌≡◌, ◌∙◌, ◌++◌, ◌∷◌, [], ap, sym, subst}
use Rattle.std.specs.Prelude.{OnOk}
use Rattle.m161_states.specs.System.{Explored, event_of}
use Rattle.m161_reach.specs.Reach.{IsMet}
use Rattle.m161_reach.specs.helpers.Advance.{TakesNext}
use Rattle.m161_reach.specs.helpers.MetFrom.{next_met, unmade_met}
use Rattle.m161_reach.specs.helpers.Path.{IsPath, mark_of}
use Rattle.m161_reach.proofs.Marking.{path_more, path_stays}
use Rattle.m161_reach.proofs.Walking.{stays, took}
use Rattle.m161_reach.proofs.path.go_by.Goals as goal
use Rattle.m161_reach.proofs.path.go_by.Goals.{in-Some+in_ok-push-in-Some, in-None}

pub returns-clause-met : goal.returns-clause-met
returns-clause-met g c =
    let q = c.args.machines.now in
    let x = c.args.place.now in
    let n = c.args.event in
    let t = c.take_event.new.place in
    elim c.match-branch-2.branch [
      | in-Some+in_ok-push-in-Some w ↦
          let to = took q x n t w.in-Some._outcome (subst (TakesNext q.goal x (event_of q x n) t) w.in-Some.is c.in_ok-_outcome.ensures) in
          subst (λ r. OnOk r (IsMet q t)) (sym w.result-is) (subst (IsMet q) (sym to.2) (unmade_met q to.0 (next_met q x to.0 n c.requires.met to.1)))
      | in-None w ↦
          let same = stays q x n t (subst (TakesNext q.goal x (event_of q x n) t) w.in-None.is c.in_ok-_outcome.ensures) in
          subst (λ r. OnOk r (IsMet q t)) (sym w.result-is) (subst (IsMet q) (sym same) c.requires.met)
    ]

pub returns-clause-path : goal.returns-clause-path
returns-clause-path g c = λ from path.
    let q = c.args.machines.now in
    let x = c.args.place.now in
    let n = c.args.event in
    let t = c.take_event.new.place in
    let old = c.args.marks.now.items in
    let new = c.match-branch-2.marks.items in
    elim c.match-branch-2.branch [
      | in-Some+in_ok-push-in-Some w ↦
          let to = took q x n t w.in-Some._outcome (subst (TakesNext q.goal x (event_of q x n) t) w.in-Some.is c.in_ok-_outcome.ensures) in
          let items : new ≡ old ++ w.mark_of.result ∷ [] = (λ i. (w.marks-is i).items) ∙ w.in_ok-push-in-Some.ensures.items in
          let marked : w.mark_of.result ≡ mark_of t.state = w.mark_of.ensures ∙ ap (λ (y : Explored). mark_of y.state) c.place.view_is in
          subst (λ r. OnOk r (IsPath q from t new)) (sym w.result-is)
          (subst (IsPath q from t) (sym items) (path_more q from x to.0 t n w.mark_of.result old path c.requires.event to.1 to.2 marked))
      | in-None w ↦
          let same = stays q x n t (subst (TakesNext q.goal x (event_of q x n) t) w.in-None.is c.in_ok-_outcome.ensures) in
          let items : new ≡ old = λ i. (w.marks-is i).items in
          subst (λ r. OnOk r (IsPath q from t new)) (sym w.result-is) (subst (IsPath q from t) (sym items) (path_stays q from x t old path same))
    ]
