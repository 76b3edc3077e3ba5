use Rattle.std.proofs.Common.{◌≡◌, arith, ◌∙◌}
use Rattle.std.proofs.lemmas.List.{take_at}
use Rattle.m161_explore.specs.helpers.Ends.{IsSettled, Spreads}
use Rattle.m161_explore.proofs.Judging.{hung_path, is_clean, settled_at, spreads_at}
use Rattle.m161_explore.proofs.Laws.{Laws}
use Rattle.m161_explore.proofs.whole.judge.Goals as goal

pub returns-in-None : goal.returns-in-None
returns-in-None g c =
    let m = c.args.system.now in
    let met = g.met.S.System in
    let laws : Laws (g.S.System.rules m) (g.S.System.is_valid m) =
    record { start = met.valid_start m; next = met.valid_next m; stop = met.alike_stop m; step = met.alike_next m; verdict = met.alike_verdict m; ends = met.alike_end m } in
    let same : c.deref-2.result.now ≡ c.spread_all.new.flags = c.deref-2.ensures.value ∙ take_at c.spread_all.new.flags _ _ (omega (arith, c.spread_all.ensures.spreads.size, c.deref_mut.ensures.len)) in
    let spreads : Spreads (g.S.System.rules m).width c.args.graph.now.links.items c.in_ok-flags.flags.items c.deref-2.result.now =
    spreads_at _ _ _ _ _ _ _ _ c.width.ensures c.deref.ensures.value c.deref_mut.ensures.value same c.spread_all.ensures.spreads in
    is_clean _ _ _ _ _ _ _ _ laws c.requires.before c.in_ok-flags.ensures spreads c.in-None.ensures (omega arith)

pub returns : goal.returns
returns g c =
    let m = c.args.system.now in
    let met = g.met.S.System in
    let laws : Laws (g.S.System.rules m) (g.S.System.is_valid m) =
    record { start = met.valid_start m; next = met.valid_next m; stop = met.alike_stop m; step = met.alike_next m; verdict = met.alike_verdict m; ends = met.alike_end m } in
    let same : c.deref-2.result.now ≡ c.spread_all.new.flags = c.deref-2.ensures.value ∙ take_at c.spread_all.new.flags _ _ (omega (arith, c.spread_all.ensures.spreads.size, c.deref_mut.ensures.len)) in
    let spreads : Spreads (g.S.System.rules m).width c.args.graph.now.links.items c.in_ok-flags.flags.items c.deref-2.result.now =
    spreads_at _ _ _ _ _ _ _ _ c.width.ensures c.deref.ensures.value c.deref_mut.ensures.value same c.spread_all.ensures.spreads in
    let settled : IsSettled (g.S.System.rules m).width c.args.graph.now.links.items c.deref-2.result.now =
    settled_at _ _ _ _ _ _ c.width.ensures c.deref.ensures.value same c.spread_all.ensures.settled in
    let path = c.in_ok-path_to-in-Some.ensures in
    hung_path _ _ _ _ _ _ _ _ c.in-Some.at _ _ path.0 laws c.requires.before c.in_ok-flags.ensures spreads settled c.in-Some.ensures.0 c.in-Some.ensures.1 c.in-Some.ensures.2 c.deref-in-Some.ensures.value path.1 path.2 (omega arith)
