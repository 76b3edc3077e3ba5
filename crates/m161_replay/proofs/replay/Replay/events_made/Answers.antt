use Rattle.std.proofs.Common.{◌∙◌, ap, sym, take}
use Rattle.std.proofs.Math.Nat.{min-eq_left}
use Rattle.m161_replay.proofs.replay.Replay.events_made.Goals as goal

pub returns : goal.returns
returns g c = c.made.ensures ∙ ap (λ n. take n c.args.self.now.events) (sym (min-eq_left c.law.ensures.within))
