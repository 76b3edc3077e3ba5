use Rattle.std.proofs.Common.{◌≡◌, ℕ, ◌+◌, ◌++◌, ◌∷◌, List, [], ap, arith, sym, subst, ◌∙◌, refl}
use Rattle.m161_explore.specs.declared.views.Entry.TheVariants.{Full, Known, New}
use Rattle.m161_explore.specs.helpers.Visit.{IsAt}
use Rattle.m161_explore.proofs.Laws.{Laws}
use Rattle.m161_explore.proofs.Judging.{earlier_before}
use Rattle.m161_explore.proofs.Visits.{enters_as, knows, overflows, pushes}
use Rattle.m161_explore.proofs.search.arrive.Goals as goal

pub returns-in_ok-push-in-Known-clause-visits : goal.returns-in_ok-push-in-Known-clause-visits
returns-in_ok-push-in-Known-clause-visits g c =
    let m = c.args.system.now in
    let met = g.met.S.System in
    let laws : Laws (g.S.System.rules m) (g.S.System.is_valid m) =
    record { start = met.valid_start m; next = met.valid_next m; stop = met.alike_stop m; step = met.alike_next m; verdict = met.alike_verdict m; ends = met.alike_end m } in
    let encoded : c.encode.new.words.items ≡ (g.S.System.rules m).view (g.S.System.seen c.args.state.now) = c.in_ok-encode.ensures.words ∙ ap (λ (x : List ℕ). x ++ (g.S.System.rules m).view (g.S.System.seen c.args.state.now)) c.clear.ensures.items in
    let entry = enters_as _ _ _ _ c.in_ok-entry.entry (Known c.in-Known.known) c.in-Known.is c.in_ok-entry.ensures in
    let P : List (List ℕ) → Type 0 = λ x. IsAt (g.S.System.rules m) (g.S.System.is_valid m) x c.args.graph.now.nodes.items c.push.new.self.items c.args.from (c.args.event + 1) in
    subst P (sym entry.0) (knows _ _ _ _ _ _ _ _ c.in-Known.known (g.S.System.seen c.args.state.now) c.deref.result.now laws c.requires.at c.requires.passed (c.deref.ensures.value ∙ encoded) entry.1 entry.2 c.in_ok-push-in-Known.ensures.items)

pub returns-in_ok-push-in-New-2-clause-visits : goal.returns-in_ok-push-in-New-2-clause-visits
returns-in_ok-push-in-New-2-clause-visits g c =
    let m = c.args.system.now in
    let met = g.met.S.System in
    let laws : Laws (g.S.System.rules m) (g.S.System.is_valid m) =
    record { start = met.valid_start m; next = met.valid_next m; stop = met.alike_stop m; step = met.alike_next m; verdict = met.alike_verdict m; ends = met.alike_end m } in
    let encoded : c.encode.new.words.items ≡ (g.S.System.rules m).view (g.S.System.seen c.args.state.now) = c.in_ok-encode.ensures.words ∙ ap (λ (x : List ℕ). x ++ (g.S.System.rules m).view (g.S.System.seen c.args.state.now)) c.clear.ensures.items in
    let entry = enters_as _ _ _ _ c.in_ok-entry.entry New c.in-New.is c.in_ok-entry.ensures in
    pushes _ _ _ _ _ _ _ _ _ _ (g.S.System.seen c.args.state.now) c.deref.result.now (record { parent = c.args.from; event = c.args.event }) laws c.requires.at c.requires.passed
    (c.deref.ensures.value ∙ encoded) entry.2 refl refl entry.0 c.in_ok-push-in-New-2.ensures.items
    (c.in_ok-push-in-New.ensures.items ∙ ap (λ (x : ℕ). c.args.graph.now.links.items ++ (x + 1) ∷ []) c.len-count.ensures)

pub returns-in-Full-clause-visits : goal.returns-in-Full-clause-visits
returns-in-Full-clause-visits g c =
    let m = c.args.system.now in
    let met = g.met.S.System in
    let laws : Laws (g.S.System.rules m) (g.S.System.is_valid m) =
    record { start = met.valid_start m; next = met.valid_next m; stop = met.alike_stop m; step = met.alike_next m; verdict = met.alike_verdict m; ends = met.alike_end m } in
    let encoded : c.encode.new.words.items ≡ (g.S.System.rules m).view (g.S.System.seen c.args.state.now) = c.in_ok-encode.ensures.words ∙ ap (λ (x : List ℕ). x ++ (g.S.System.rules m).view (g.S.System.seen c.args.state.now)) c.clear.ensures.items in
    let entry = enters_as _ _ _ _ c.in_ok-entry.entry Full c.in-Full.is c.in_ok-entry.ensures in (
      omega (arith, c.requires.at.within, c.requires.at.searched.sizes),
      earlier_before _ _ _ _ _ c.requires.at.searched,
      (λ trail k. overflows _ _ _ _ _ _ _ _ (g.S.System.seen c.args.state.now) c.deref.result.now laws c.requires.at c.requires.passed c.requires.few
          entry.1 (c.deref.ensures.value ∙ encoded) entry.2 trail k),
    )
