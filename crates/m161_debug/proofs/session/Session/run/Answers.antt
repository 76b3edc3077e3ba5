use Rattle.std.proofs.Common.{◌≡◌, ◌∙◌, ◌≤◌, ap, false, sym, true, subst, refl, length, arith, rules}
use Rattle.m161_machine.specs.History.{History}
use Rattle.m161_machine.proofs.Continuing.{continues_none}
use Rattle.m161_debug.specs.Stops.{breaks}
use Rattle.m161_debug.specs.helpers.Batch.{events_in}
use Rattle.m161_debug.specs.helpers.Marks.{is_met, mark_of, IsMark}
use Rattle.m161_debug.proofs.Going.{ends, goes_on, made_more, none_before_first, refused, stops_at_break, switches_off, waits_no_more, IsAt, Passes}
use Rattle.m161_debug.proofs.Marking.{found_by, stays_mark}
use Rattle.m161_debug.proofs.session.Session.run.Goals as goal
use Rattle.m161_debug.proofs.session.Session.run.Goals.{else-k-gt0-via-then-k-gt0+else-is_at_break, else-k-gt0-via-else-k-gt0}

pub loop-k-init : goal.loop-k-init
loop-k-init g c =
    let same : c.self.inside.machine ≡ c.args.self.now.machine = ap (λ s. s.machine) c.self.view_is in
    let fits : length c.self.inside.machine.log ≤ c.self.inside.machine.start.conf.log = let last = c.replay.ensures.last in omega (arith, last) in
    record {
      made = continues_none c.args.self.now.machine (subst (λ (m : History). length m.log ≤ m.start.conf.log) same fits);
      none = none_before_first _ _ _ _;
      same = refl;
      style = refl;
    }

pub returns-then-is_at_break-clause-stop : goal.returns-then-is_at_break-clause-stop
returns-then-is_at_break-clause-stop g c =
    let at : IsAt (events_in c.args.events) c.loop-k.k c.at.result = (omega arith, c.at.ensures) in
    let here : breaks c.args.self.now.breakpoints c.loop-k.k c.loop-k.self.machine.state c.at.result ≡ true = search rules in
    stops_at_break _ _ _ c.loop-k.self.machine _ _ _ at c.loop-k.invariant.made c.loop-k.invariant.none here

pub returns-in-Err-clause-stop : goal.returns-in-Err-clause-stop
returns-in-Err-clause-stop g c =
    let at : IsAt (events_in c.args.events) c.loop-k.k c.at.result = (omega arith, c.at.ensures) in
    let passes : Passes c.args.self.now.breakpoints c.loop-k.k c.loop-k.self.machine.state c.at.result = elim c.else-k-gt0.branch [
      | else-k-gt0-via-then-k-gt0+else-is_at_break w ↦ search rules
      | else-k-gt0-via-else-k-gt0 w ↦ search rules
    ] in
    refused _ _ _ _ _ _ _ _ _ at c.loop-k.invariant.made c.loop-k.invariant.none passes c.in-Err.ensures.answers

pub returns-in-Some-clause-stop : goal.returns-in-Some-clause-stop
returns-in-Some-clause-stop g c =
    let at : IsAt (events_in c.args.events) c.loop-k.k c.at.result = (omega arith, c.at.ensures) in
    let passes : Passes c.args.self.now.breakpoints c.loop-k.k c.loop-k.self.machine.state c.at.result = elim c.else-k-gt0.branch [
      | else-k-gt0-via-then-k-gt0+else-is_at_break w ↦ search rules
      | else-k-gt0-via-else-k-gt0 w ↦ search rules
    ] in
    switches_off _ _ c.args.self.now.machine c.loop-k.self.machine c.step.new.self.machine _ _ _ _ c.in-Some.stop at c.loop-k.invariant.made c.loop-k.invariant.none passes
    c.in-Ok.ensures.answers (search rules)

pub is_met-requires : goal.is_met-requires
is_met-requires g c =
    let same : c.self.inside.machine ≡ c.args.self.now.machine = ap (λ s. s.machine) c.self.view_is in
    let sound = subst (λ (m : History). IsMark m.start.conf c.mark_of-mark.result) same c.mark_of-mark.ensures.sound in
    let after : c.self-in-loop-k.inside.machine ≡ c.step.new.self.machine = ap (λ s. s.machine) c.self-in-loop-k.view_is in
    subst (λ (m : History). IsMark m.start.conf c.mark_of-mark.result) (sym after)
    (stays_mark c.mark_of-mark.result c.args.self.now.machine c.loop-k.self.machine c.step.new.self.machine _ c.at.result c.in-Ok.outcome sound c.loop-k.invariant.made c.in-Ok.ensures.answers)

pub returns-then-is_met-clause-stop : goal.returns-then-is_met-clause-stop
returns-then-is_met-clause-stop g c =
    let at : IsAt (events_in c.args.events) c.loop-k.k c.at.result = (omega arith, c.at.ensures) in
    let passes : Passes c.args.self.now.breakpoints c.loop-k.k c.loop-k.self.machine.state c.at.result = elim c.else-k-gt0.branch [
      | else-k-gt0-via-then-k-gt0+else-is_at_break w ↦ search rules
      | else-k-gt0-via-else-k-gt0 w ↦ search rules
    ] in
    let same : c.self.inside.machine ≡ c.args.self.now.machine = ap (λ s. s.machine) c.self.view_is in
    let value = c.mark_of-mark.ensures.value ∙ ap (λ (m : History). mark_of c.args.condition m.state) same in
    let after : c.self-in-loop-k.inside.machine ≡ c.step.new.self.machine = ap (λ s. s.machine) c.self-in-loop-k.view_is in
    let seen = c.is_met.ensures ∙ ap (λ (m : History). is_met c.mark_of-mark.result c.at.result c.in-Ok.outcome m.state) after in
    let found = found_by c.args.condition c.args.self.now.machine.state c.mark_of-mark.result c.at.result c.in-Ok.outcome c.step.new.self.machine.state c.is_met.result value seen in
    let met : c.is_met.result ≡ true = search rules in
    waits_no_more _ _ c.args.self.now.machine c.loop-k.self.machine c.step.new.self.machine _ _ _ _ at c.loop-k.invariant.made c.loop-k.invariant.none passes c.in-Ok.ensures.answers (search rules) (found ∙ met)

pub loop-k-preserved : goal.loop-k-preserved
loop-k-preserved g c =
    let at : IsAt (events_in c.args.events) c.loop-k.k c.at.result = (omega arith, c.at.ensures) in
    let passes : Passes c.args.self.now.breakpoints c.loop-k.k c.loop-k.self.machine.state c.at.result = elim c.else-k-gt0.branch [
      | else-k-gt0-via-then-k-gt0+else-is_at_break w ↦ search rules
      | else-k-gt0-via-else-k-gt0 w ↦ search rules
    ] in
    let same : c.self.inside.machine ≡ c.args.self.now.machine = ap (λ s. s.machine) c.self.view_is in
    let value = c.mark_of-mark.ensures.value ∙ ap (λ (m : History). mark_of c.args.condition m.state) same in
    let after : c.self-in-loop-k.inside.machine ≡ c.step.new.self.machine = ap (λ s. s.machine) c.self-in-loop-k.view_is in
    let seen = c.is_met.ensures ∙ ap (λ (m : History). is_met c.mark_of-mark.result c.at.result c.in-Ok.outcome m.state) after in
    let found = found_by c.args.condition c.args.self.now.machine.state c.mark_of-mark.result c.at.result c.in-Ok.outcome c.step.new.self.machine.state c.is_met.result value seen in
    let unmet : c.is_met.result ≡ false = search rules in
    record {
      made = made_more _ _ _ _ _ _ _ at c.loop-k.invariant.made c.in-Ok.ensures.answers;
      none = goes_on _ _ c.args.self.now.machine c.loop-k.self.machine c.step.new.self.machine _ _ _ _ at c.loop-k.invariant.made c.loop-k.invariant.none passes c.in-Ok.ensures.answers (search rules) (found ∙ unmet);
      same = c.in-Ok.ensures.breakpoints ∙ c.loop-k.invariant.same;
      style = c.in-Ok.ensures.style ∙ c.loop-k.invariant.style;
    }

pub returns-clause-stop : goal.returns-clause-stop
returns-clause-stop g c =
    let whole : c.loop-k.k ≡ length (events_in c.args.events) = omega arith in
    ends _ _ c.args.self.now.machine c.loop-k.self.machine (events_in c.args.events) c.loop-k.k _ whole (omega arith) c.loop-k.invariant.made c.loop-k.invariant.none
