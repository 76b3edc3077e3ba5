use Rattle.std.proofs.Common.{◌≡◌, ◌∙◌, [], ◌∷◌, ◌+◌, ◌++◌, sym, ap, subst, arith, append_assoc}
use Rattle.std.specs.Prelude.{IfSome, slice_get}
use Rattle.std.proofs.lemmas.List.{length-append, map_push}
use Rattle.m161_machine.specs.declared.event.Entry.{Entry}
use Rattle.m161_machine.specs.History.{events_of}
use Rattle.m161_places.specs.Going.{Passes}
use Rattle.m161_places.specs.helpers.Noting.{GoesNoting}
use Rattle.m161_places.proofs.Exchanging.{passes_more}
use Rattle.m161_places.proofs.Noting.{place_few}
use Rattle.m161_places.proofs.going.advance.Goals as goal

pub loop-preserved : goal.loop-preserved
loop-preserved g c =
    let rules = c.args.policy.now in
    let keys = slice_get rules.keys in
    let was = c.loop.invariant in
    let old = c.args.events.now.items in
    let one : GoesNoting rules keys c.loop.cursor c.loop.core.state c.loop.events.items c.in-Some.more c.go_on.new.cursor c.go_on.new.core.state c.go_on.new.events.items =
    subst (λ o. IfSome o (λ places. GoesNoting rules keys c.loop.cursor c.loop.core.state c.loop.events.items places c.go_on.new.cursor c.go_on.new.core.state
    c.go_on.new.events.items)) c.in-Some.is c.in_ok-more.ensures in
    let e = one.0 in (
      was.0 ++ e ∷ [],
      subst (λ k. Passes rules keys c.args.cursor.now c.args.core.now.state (was.0 ++ e ∷ []) c.go_on.new.cursor c.go_on.new.core.state (c.loop.passed + k))
          (sym one.2)
          (passes_more rules keys was.0 c.args.cursor.now c.loop.cursor c.go_on.new.cursor c.args.core.now.state c.loop.core.state c.go_on.new.core.state
          c.loop.passed e was.1 one.1),
      (let size = length-append was.0 (e ∷ []) in let few = was.2 in omega (arith, size, few)),
      (let less = c.if-passed-places.false in let most = place_few e.event c.loop.core.state in let is = one.2 in omega (arith, less, most, is)),
      one.3
          ∙ ap (λ xs. xs ++ e.event ∷ []) was.4
          ∙ append_assoc old (events_of was.0) (e.event ∷ [])
          ∙ ap (λ xs. old ++ xs) (sym (map_push (λ (x : Entry). x.event) was.0 e)),
    )
