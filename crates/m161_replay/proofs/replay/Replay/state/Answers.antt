use Rattle.std.proofs.Common.{◌∙◌, ap, length, sym}
use Rattle.std.proofs.Math.Nat.{min-eq_left}
use Rattle.m161_machine.specs.State.{State}
use Rattle.m161_replay.specs.Replays.{state_at}
use Rattle.m161_replay.proofs.Places.{number_at}
use Rattle.m161_replay.proofs.replay.Replay.state.Goals as goal

pub returns-clause-state : goal.returns-clause-state
returns-clause-state g c =
    let run = c.args.self.now in
    c.core.ensures ∙ ap (state_at run.start run.events) (sym (min-eq_left c.law.ensures.within))

pub returns-clause-number : goal.returns-clause-number
returns-clause-number g c =
    let run = c.args.self.now in
    ap (λ (s : State). length s.processors) c.core.ensures ∙ number_at run.start run.events run.place
