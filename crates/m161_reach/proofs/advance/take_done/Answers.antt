use Rattle.std.proofs.Common.{◌≡◌, ◌∙◌, ap, sym, subst, false, ℕ, Option, Some}
use Rattle.std.specs.Prelude.{option_to_list}
use Rattle.m161_machine.specs.declared.event.Event.TheVariants.{Done}
use Rattle.m161_machine.specs.State.{is_worn}
use Rattle.m161_judge.specs.Judge.{bytes_of}
use Rattle.m161_judge.specs.Verdict.{Criteria}
use Rattle.m161_states.specs.System.{Explored, agreed_after}
use Rattle.m161_reach.specs.helpers.Advance.{Takes}
use Rattle.m161_reach.proofs.Advancing.{around, done_taken}
use Rattle.m161_reach.proofs.advance.take_done.Goals as goal

pub returns-in-Ok : goal.returns-in-Ok
returns-in-Ok g c =
    let s = c.place.inside.core.state in
    let new = c.done.new.self.state in
    let o = c.in-Ok.outcome in
    let typed = c.place.inside.typed in
    let agreed = c.place.inside.agreed in
    let flags = c.place.inside.kept.items in
    let output = bytes_of c.goal.inside.output in
    let asks : Criteria = record { watches = c.goal.inside.watches.now; never = c.goal.inside.never.now; output = output; keys = c.goal.inside.keys.now } in
    let worn : is_worn s.made ≡ false = sym (c.worn.ensures ∙ ap is_worn c.made.ensures) ∙ c.if-worn.false in
    let agreed_is = c.agreed_after-place-inside.ensures ∙ ap (λ b. agreed_after output (option_to_list b) agreed) c.latch-sent.ensures in
    let after = c.agreed_after-place-inside.result in
    subst (λ (x : Explored). Takes c.args.goal.now x Done (around new typed flags after) (Some o)) c.place.view_is
    (subst (λ (a : Criteria). Takes a (around s typed flags agreed) Done (around new typed flags after) (Some o)) c.goal.view_is
    (subst (λ (n : Option ℕ). Takes asks (around s typed flags agreed) Done (around new typed flags n) (Some o)) (sym agreed_is)
    (done_taken c.fresh_is_same.ensures.law asks s new typed flags agreed o worn c.in-Ok.ensures.makes)))
