use Rattle.std.proofs.Common.{◌∙◌, ap, arith}
use Rattle.m161_machine.specs.declared.event.Event.TheVariants.{Step}
use Rattle.m161_machine.specs.State.{next}
use Rattle.m161_replay.proofs.Places.{accepts, goes_on, indexed}
use Rattle.m161_replay.proofs.kept.KeptState.go_on.Goals as goal

pub advance-requires-clause-accepted : goal.advance-requires-clause-accepted
advance-requires-clause-accepted g c =
    let list = c.args.list.now in
    let self = c.loop-self.self in
    let at = c.loop-self.invariant.at c.requires.0 c.requires.1 in
    let below = c.requires.2 in
    let a = accepts c.requires.0 list self.place self.last self.core.value.state at (omega (arith, below)) in
    (a.outcome, a.state, ap (next self.core.value.state) (indexed self.core.value.state list self.place (Step 0) a) ∙ a.made)

pub loop-self-preserved : goal.loop-self-preserved
loop-self-preserved g c =
    let list = c.args.list.now in
    let self = c.loop-self.self in
    let new = c.advance.new.self in
    let below = c.requires.2 in
    let a = accepts c.requires.0 list self.place self.last self.core.value.state (c.loop-self.invariant.at c.requires.0 c.requires.1) (omega (arith, below)) in
    let made = c.in_ok-advance.ensures.made in
    let place = c.in_ok-advance.ensures.place in
    let more = c.loop-self.invariant.more in
    let within = c.loop-self.invariant.within in
    record {
      at = λ start at. goes_on start list self.place self.last self.core.value.state (Step 0) a made.0 new.core.value.state new.place new.last
          (c.loop-self.invariant.at start at) made.1 place c.in_ok-advance.ensures.last;
      more = omega (arith, more, place);
      within = omega (arith, within, place);
    }

pub returns-clause-place : goal.returns-clause-place
returns-clause-place g c =
    let within = c.loop-self.invariant.within in
    let more = c.loop-self.invariant.more in
    omega (arith, within, more)
