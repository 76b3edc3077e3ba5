use Rattle.std.proofs.Common.{arith}
use Rattle.m161_explore.proofs.Laws.{Laws}
use Rattle.m161_explore.proofs.Visits.{IsTried, refuses}
use Rattle.m161_explore.proofs.search.note_refused.Goals as goal

pub loop-event-preserved : goal.loop-event-preserved
loop-event-preserved g c =
    let m = c.args.system.now in
    let met = g.met.S.System in
    let laws : Laws (g.S.System.rules m) (g.S.System.is_valid m) =
    record { start = met.valid_start m; next = met.valid_next m; stop = met.alike_stop m; step = met.alike_next m; verdict = met.alike_verdict m; ends = met.alike_end m } in
    let has = c.requires.refused in
    let tried : IsTried (g.S.System.rules m) (g.S.System.is_valid m) c.args.keys.now c.args.from c.loop-event._event has.0 =
    record { event = omega arith; valid = has.1; same = has.2 } in
    refuses _ _ _ _ _ _ _ _ has.0 has.0 laws c.loop-event.invariant tried (has.3 c.loop-event._event (omega arith) (omega arith)) c.in_ok-push.ensures.items
