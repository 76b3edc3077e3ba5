use Rattle.std.proofs.Common.{◌≡◌, ◌∙◌, ap, sym, Bool, Some, None}
use Rattle.std.specs.Prelude.{if◌then◌else◌}
use Rattle.m161_states.specs.declared.verdict.EventVerdict.TheVariants.{Stale}
use Rattle.m161_states.specs.Verdicts.{is_stale_for, some_watch, stale_via}
use Rattle.m161_reach.proofs.judge.stale_via.Goals as goal

pub returns-then-is_stale : goal.returns-then-is_stale
returns-then-is_stale g c =
    let v = c.in-Some.via in
    let watches = c.goal.inside.watches.now in
    let test = is_stale_for c.place.inside.core.state c.args.p v in
    let is : some_watch test watches c.place.inside.kept.items ≡ c.is_stale.result =
    sym (c.is_stale.ensures ∙ ap (some_watch test watches) c.deref.ensures.value) in
    (λ i. Some (Stale c.args.p v.address (c.number.ensures.value i)))
    ∙ sym (ap (λ (b : Bool). if b then Some (Stale c.args.p v.address v.row) else None) (is ∙ c.if-is_stale.true))
    ∙ (λ i. stale_via (c.goal.view_is i) (c.place.view_is i) c.args.p (sym c.in-Some.is i))

pub returns-else-is_stale : goal.returns-else-is_stale
returns-else-is_stale g c =
    let v = c.in-Some.via in
    let watches = c.goal.inside.watches.now in
    let test = is_stale_for c.place.inside.core.state c.args.p v in
    let is : some_watch test watches c.place.inside.kept.items ≡ c.is_stale.result =
    sym (c.is_stale.ensures ∙ ap (some_watch test watches) c.deref.ensures.value) in
    sym (ap (λ (b : Bool). if b then Some (Stale c.args.p v.address v.row) else None) (is ∙ c.if-is_stale.false))
    ∙ (λ i. stale_via (c.goal.view_is i) (c.place.view_is i) c.args.p (sym c.in-Some.is i))
