use Rattle.std.proofs.Common.{◌≡◌, take}
use Rattle.m161_machine.specs.History.{Continues}
use Rattle.m161_debug.specs.helpers.Conditions.{holds_if}
use Rattle.m161_debug.specs.Stops.{NoneBefore}
use Rattle.m161_debug.specs.helpers.Batch.{events_in}
use Rattle.m161_debug.proofs.session.Session.run.Given as goal

abbrev pub invariant-loop-k : goal.invariant-loop-k
invariant-loop-k g l =
    let awaited = holds_if l.fn.condition l.initial.self.machine.state in
    record {
      made : Continues l.initial.self.machine (take l.k (events_in l.events)) l.self.machine;
      none : NoneBefore awaited l.initial.self.breakpoints l.initial.self.machine.state (events_in l.events) l.k;
      same : l.self.breakpoints ≡ l.initial.self.breakpoints;
      style : l.self.style ≡ l.initial.self.style;
    }
