use Rattle.std.proofs.Common.{◌≡◌, ◌∙◌, ap, sym, subst, false, List, None, Some}
use Rattle.std.specs.Vec.{with_items}
use Rattle.std.proofs.lemmas.List.{with_items_is}
use Rattle.m161_machine.specs.declared.event.Event.TheVariants.{Step}
use Rattle.m161_machine.specs.State.{State, is_worn, next}
use Rattle.m161_judge.specs.Judge.{bytes_of}
use Rattle.m161_judge.specs.Verdict.{Criteria}
use Rattle.m161_states.specs.System.{Explored, Flags, flags_behind}
use Rattle.m161_reach.specs.helpers.Advance.{Takes}
use Rattle.m161_reach.proofs.Advancing.{around, refused, step_refused, step_taken}
use Rattle.m161_reach.proofs.advance.take_step.Goals as goal

pub returns-in-Ok : goal.returns-in-Ok
returns-in-Ok g c =
    let s = c.place.inside.core.state in
    let new = c.step.new.self.state in
    let p = c.args.p in
    let o = c.in-Ok.outcome in
    let typed = c.place.inside.typed in
    let agreed = c.place.inside.agreed in
    let flags = c.place.inside.kept.items in
    let watches = c.goal.inside.watches.now in
    let asks : Criteria = record { watches = watches; never = c.goal.inside.never.now; output = bytes_of c.goal.inside.output; keys = c.goal.inside.keys.now } in
    let worn : is_worn s.made ≡ false = sym (c.worn.ensures ∙ ap is_worn c.made.ensures) ∙ c.if-worn.false in
    let items = (with_items c.place.inside.kept c.keep_stored.new.kept).items in
    let items_are = with_items_is c.place.inside.kept c.keep_stored.new.kept (c.keep_stored.auto.kept ∙ c.deref_mut.ensures.len) in
    let kept_is = c.keep_stored.ensures ∙ (λ i. flags_behind (c.uses-stored.ensures.value i).stored watches (c.deref_mut.ensures.value i)) in
    subst (λ (x : Explored). Takes c.args.goal.now x (Step p) (around new typed items agreed) (Some o)) c.place.view_is
    (subst (λ (a : Criteria). Takes a (around s typed flags agreed) (Step p) (around new typed items agreed) (Some o)) c.goal.view_is
    (subst (λ (fs : List Flags). Takes asks (around s typed flags agreed) (Step p) (around new typed fs agreed) (Some o)) (sym (items_are ∙ kept_is))
    (step_taken c.fresh_is_same.ensures.law asks s new typed p flags agreed o worn c.in-Ok.ensures.makes)))

pub returns-in-Err : goal.returns-in-Err
returns-in-Err g c =
    let s = c.place.inside.core.state in
    let p = c.args.p in
    let worn : is_worn s.made ≡ false = sym (c.worn.ensures ∙ ap is_worn c.made.ensures) ∙ c.if-worn.false in
    let first = step_refused (next s (Step p)) p c.in-Err.field-0 c.in-Err.ensures.makes.0 in
    let typed = c.place.inside.typed in
    let flags = c.place.inside.kept.items in
    let agreed = c.place.inside.agreed in
    let t = around c.step.new.self.state typed flags agreed in
    subst (λ (x : Explored). Takes c.args.goal.now x (Step p) t None) c.place.view_is
    (refused c.fresh_is_same.ensures.law c.args.goal.now s typed flags agreed (Step p) first.0 t worn first.1
    (ap (λ (u : State). around u typed flags agreed) c.in-Err.ensures.makes.1))
