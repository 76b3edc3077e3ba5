use Rattle.std.proofs.Common.{◌≡◌, ℕ, ◌++◌, List, ap, arith, length, ◌∙◌}
use Rattle.m161_explore.proofs.Judging.{begins_before}
use Rattle.m161_explore.proofs.Laws.{Laws}
use Rattle.m161_explore.proofs.unfinished.begin.Goals as goal

pub returns-clause-unfinished : goal.returns-clause-unfinished
returns-clause-unfinished g c = λ limit some.
    let m = c.args.system.now in
    let met = g.met.S.System in
    let laws : Laws (g.S.System.rules m) (g.S.System.is_valid m) =
    record { start = met.valid_start m; next = met.valid_next m; stop = met.alike_stop m; step = met.alike_next m; verdict = met.alike_verdict m; ends = met.alike_end m } in
    let view_is : c.encode.new.words.items ≡ (g.S.System.rules m).view (g.S.System.rules m).start =
    c.in_ok-encode.ensures.words ∙ ap (λ (x : List ℕ). x ++ (g.S.System.rules m).view (g.S.System.seen c.in_ok-state.state)) c.new-words.ensures.items ∙ ap (λ x. (g.S.System.rules m).view x) c.in_ok-state.ensures.start in
    record {
      ready = c.in_ok-encode.ensures.ready;
      before = begins_before _ _ c.deref.result.now _ _ _ laws (c.deref.ensures.value ∙ view_is)
          c.in_ok-graph.ensures.keys c.in_ok-graph.ensures.nodes c.in_ok-graph.ensures.links;
      left = omega (arith, ap (λ (x : List (List ℕ)). length x) c.in_ok-graph.ensures.keys);
      few = omega (arith, ap (λ (x : List (List ℕ)). length x) c.in_ok-graph.ensures.keys);
    }
