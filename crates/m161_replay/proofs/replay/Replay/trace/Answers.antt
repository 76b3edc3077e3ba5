use Rattle.std.proofs.Common.{◌≡◌, sym, subst, ℕ}
use Rattle.std.specs.Prelude.{IfOk, string_bytes}
use Rattle.std.proofs.Math.Nat.{min-eq_left}
use Rattle.m161_replay.specs.Replays.{trace_before}
use Rattle.m161_replay.proofs.replay.Replay.trace.Goals as goal

pub returns : goal.returns
returns g c =
    let run = c.args.self.now in
    subst (λ (n : ℕ). IfOk c.lines.result (λ text. string_bytes text ≡ trace_before run.start run.events n c.args.number)) (sym (min-eq_left c.law.ensures.within)) c.lines.ensures
