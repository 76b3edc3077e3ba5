use Rattle.std.proofs.Common.{◌≡◌, ◌∙◌, ap, sym, subst, arith, false, ◌+◌, get_or, ℕ, None, Option, Some}
use Rattle.m161_machine.specs.declared.event.Event.TheVariants.{Key}
use Rattle.m161_machine.specs.State.{State, is_worn, next}
use Rattle.m161_judge.specs.Judge.{bytes_of}
use Rattle.m161_judge.specs.Verdict.{Criteria}
use Rattle.m161_states.specs.System.{Explored}
use Rattle.m161_reach.specs.helpers.Advance.{TakesNext}
use Rattle.m161_reach.proofs.Advancing.{around, key_of, key_refused, key_taken, refused, there}
use Rattle.std.specs.Prelude.{slice_get}
use Rattle.m161_reach.proofs.advance.take_key.Goals as goal

pub returns-in-Ok : goal.returns-in-Ok
returns-in-Ok g c =
    let s = c.place.inside.core.state in
    let new = c.key.new.self.state in
    let o = c.in-Ok.outcome in
    let typed = c.place.inside.typed in
    let agreed = c.place.inside.agreed in
    let flags = c.place.inside.kept.items in
    let keys = c.goal.inside.keys.now in
    let asks : Criteria = record { watches = c.goal.inside.watches.now; never = c.goal.inside.never.now; output = bytes_of c.goal.inside.output; keys = keys } in
    let worn : is_worn s.made ≡ false = sym (c.worn.ensures ∙ ap is_worn c.made.ensures) ∙ c.if-worn.false in
    let t = around new (typed + 1) flags agreed in
    subst (λ (x : Explored). TakesNext c.args.goal.now x (key_of (slice_get c.args.goal.now.keys x.typed)) t (Some o)) c.place.view_is
    (subst (λ (a : Criteria). TakesNext a (around s typed flags agreed) (key_of (slice_get a.keys typed)) t (Some o)) c.goal.view_is
    (subst (λ (b : Option ℕ). TakesNext asks (around s typed flags agreed) (key_of b) t (Some o)) (sym (there keys typed (omega arith)))
    (key_taken c.fresh_is_same.ensures.law asks s new typed (get_or keys typed 0) flags agreed o worn c.in-Ok.ensures.makes)))

pub returns-in-Err : goal.returns-in-Err
returns-in-Err g c =
    let s = c.place.inside.core.state in
    let typed = c.place.inside.typed in
    let agreed = c.place.inside.agreed in
    let flags = c.place.inside.kept.items in
    let keys = c.goal.inside.keys.now in
    let byte = get_or keys typed 0 in
    let asks : Criteria = record { watches = c.goal.inside.watches.now; never = c.goal.inside.never.now; output = bytes_of c.goal.inside.output; keys = keys } in
    let worn : is_worn s.made ≡ false = sym (c.worn.ensures ∙ ap is_worn c.made.ensures) ∙ c.if-worn.false in
    let first = key_refused (next s (Key byte)) byte c.in-Err.field-0 c.in-Err.ensures.makes.0 in
    let t = around c.key.new.self.state typed flags agreed in
    subst (λ (x : Explored). TakesNext c.args.goal.now x (key_of (slice_get c.args.goal.now.keys x.typed)) t None) c.place.view_is
    (subst (λ (a : Criteria). TakesNext a (around s typed flags agreed) (key_of (slice_get a.keys typed)) t None) c.goal.view_is
    (subst (λ (b : Option ℕ). TakesNext asks (around s typed flags agreed) (key_of b) t None) (sym (there keys typed (omega arith)))
    (refused c.fresh_is_same.ensures.law asks s typed flags agreed (Key byte) first.0 t worn first.1 (ap (λ (u : State). around u typed flags agreed) c.in-Err.ensures.makes.1))))
