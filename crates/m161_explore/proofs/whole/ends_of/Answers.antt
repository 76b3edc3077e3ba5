use Rattle.std.proofs.Common.{◌+◌, length, arith, ap, sym, ◌∙◌}
use Rattle.std.proofs.lemmas.List.{length_push}
use Rattle.m161_explore.proofs.Judging.{ends_more}
use Rattle.m161_explore.proofs.Laws.{Laws}
use Rattle.m161_explore.proofs.whole.ends_of.Goals as goal

pub restore-requires-clause-view : goal.restore-requires-clause-view
restore-requires-clause-view g c =
    let s = c.requires.before.searched.held c.loop-at.at (omega arith) in (s.0, s.1, s.2 ∙ sym (c.deref.ensures.value ∙ c.in_ok-get.ensures))

pub loop-at-preserved : goal.loop-at-preserved
loop-at-preserved g c =
    let m = c.args.system.now in
    let met = g.met.S.System in
    let laws : Laws (g.S.System.rules m) (g.S.System.is_valid m) =
    record { start = met.valid_start m; next = met.valid_next m; stop = met.alike_stop m; step = met.alike_next m; verdict = met.alike_verdict m; ends = met.alike_end m } in
    record {
      ready = c.in_ok-restore.ensures.ready;
      size = ap length c.in_ok-push.ensures.items ∙ length_push c.loop-at.ends.items c.is_end.result ∙ ap (λ x. x + 1) c.loop-at.invariant.size;
      each = λ j s h v e. ends_more _ _ _ c.loop-at.ends.items c.push.new.self.items c.loop-at.at (g.S.System.seen c.restore.new.state) c.is_end.result laws
          c.loop-at.invariant.size c.loop-at.invariant.each c.in_ok-restore.ensures.view.0 (c.in_ok-restore.ensures.view.1 ∙ c.deref.ensures.value ∙ c.in_ok-get.ensures) c.is_end.ensures c.in_ok-push.ensures.items j s h v e;
    }
