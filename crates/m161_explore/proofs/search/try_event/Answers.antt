use Rattle.std.proofs.Common.{◌∙◌}
use Rattle.m161_explore.specs.declared.system.Advanced.TheVariants.{Judged, Passed, Refused, Stopped}
use Rattle.m161_explore.proofs.Laws.{Laws}
use Rattle.m161_explore.proofs.Visits.{IsTried, advances_as, has_passed, held_key, judges, refuses, stops}
use Rattle.m161_explore.proofs.search.try_event.Goals as goal

pub restore-requires-clause-view : goal.restore-requires-clause-view
restore-requires-clause-view g c = held_key _ _ _ _ _ _ _ c.args.here.now c.requires.at c.requires.here

pub arrive-requires-clause-passed : goal.arrive-requires-clause-passed
arrive-requires-clause-passed g c =
    let m = c.args.system.now in
    let tried : IsTried (g.S.System.rules m) (g.S.System.is_valid m) c.args.graph.now.keys c.args.from c.args.event (g.S.System.seen c.restore.new.state) =
    record { event = c.requires.event; valid = c.in_ok-restore.ensures.view.0; same = c.in_ok-restore.ensures.view.1 ∙ c.requires.here } in
    has_passed _ _ _ _ _ (g.S.System.seen c.restore.new.state) (g.S.System.seen c.advance.new.state) tried (advances_as (g.S.System.rules m) (g.S.System.is_valid m) (g.S.System.seen c.restore.new.state) c.args.event (g.S.System.seen c.advance.new.state) c.in_ok-advanced.advanced Passed c.in-Passed.is c.in_ok-advanced.ensures.advances)

pub returns-in-Stopped-clause-visits : goal.returns-in-Stopped-clause-visits
returns-in-Stopped-clause-visits g c =
    let m = c.args.system.now in
    let met = g.met.S.System in
    let laws : Laws (g.S.System.rules m) (g.S.System.is_valid m) =
    record { start = met.valid_start m; next = met.valid_next m; stop = met.alike_stop m; step = met.alike_next m; verdict = met.alike_verdict m; ends = met.alike_end m } in
    let tried : IsTried (g.S.System.rules m) (g.S.System.is_valid m) c.args.graph.now.keys c.args.from c.args.event (g.S.System.seen c.restore.new.state) =
    record { event = c.requires.event; valid = c.in_ok-restore.ensures.view.0; same = c.in_ok-restore.ensures.view.1 ∙ c.requires.here } in
    stops _ _ _ _ _ _ _ (g.S.System.seen c.restore.new.state) (g.S.System.seen c.advance.new.state) c.in-Stopped.reason laws c.requires.at tried (advances_as (g.S.System.rules m) (g.S.System.is_valid m) (g.S.System.seen c.restore.new.state) c.args.event (g.S.System.seen c.advance.new.state) c.in_ok-advanced.advanced (Stopped c.in-Stopped.reason) c.in-Stopped.is c.in_ok-advanced.ensures.advances)

pub returns-in-Judged-clause-visits : goal.returns-in-Judged-clause-visits
returns-in-Judged-clause-visits g c =
    let m = c.args.system.now in
    let met = g.met.S.System in
    let laws : Laws (g.S.System.rules m) (g.S.System.is_valid m) =
    record { start = met.valid_start m; next = met.valid_next m; stop = met.alike_stop m; step = met.alike_next m; verdict = met.alike_verdict m; ends = met.alike_end m } in
    let tried : IsTried (g.S.System.rules m) (g.S.System.is_valid m) c.args.graph.now.keys c.args.from c.args.event (g.S.System.seen c.restore.new.state) =
    record { event = c.requires.event; valid = c.in_ok-restore.ensures.view.0; same = c.in_ok-restore.ensures.view.1 ∙ c.requires.here } in (
      c.requires.at,
      (λ trail k. judges _ _ _ _ _ _ _ (g.S.System.seen c.restore.new.state) (g.S.System.seen c.advance.new.state) c.in-Judged.verdict laws c.requires.at tried (advances_as (g.S.System.rules m) (g.S.System.is_valid m) (g.S.System.seen c.restore.new.state) c.args.event (g.S.System.seen c.advance.new.state) c.in_ok-advanced.advanced (Judged c.in-Judged.verdict) c.in-Judged.is c.in_ok-advanced.ensures.advances) trail k),
    )

pub returns-in_ok-push-in-Refused-clause-visits : goal.returns-in_ok-push-in-Refused-clause-visits
returns-in_ok-push-in-Refused-clause-visits g c =
    let m = c.args.system.now in
    let met = g.met.S.System in
    let laws : Laws (g.S.System.rules m) (g.S.System.is_valid m) =
    record { start = met.valid_start m; next = met.valid_next m; stop = met.alike_stop m; step = met.alike_next m; verdict = met.alike_verdict m; ends = met.alike_end m } in
    let tried : IsTried (g.S.System.rules m) (g.S.System.is_valid m) c.args.graph.now.keys c.args.from c.args.event (g.S.System.seen c.restore.new.state) =
    record { event = c.requires.event; valid = c.in_ok-restore.ensures.view.0; same = c.in_ok-restore.ensures.view.1 ∙ c.requires.here } in
    refuses _ _ _ _ _ _ _ _ (g.S.System.seen c.restore.new.state) (g.S.System.seen c.advance.new.state) laws c.requires.at tried (advances_as (g.S.System.rules m) (g.S.System.is_valid m) (g.S.System.seen c.restore.new.state) c.args.event (g.S.System.seen c.advance.new.state) c.in_ok-advanced.advanced Refused c.in-Refused.is c.in_ok-advanced.ensures.advances) c.in_ok-push-in-Refused.ensures.items
