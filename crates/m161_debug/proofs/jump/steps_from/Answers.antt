use Rattle.std.proofs.Common.{◌≡◌, ◌+◌, ◌-◌, ◌<◌, arith, drop, length, replicate, rules, subst, sym, take, true, ℕ}
use Rattle.m161_machine.specs.declared.event.Event.TheVariants.{Step}
use Rattle.m161_machine.specs.History.{events_of}
use Rattle.m161_debug.proofs.Repeating.{run_more, run_of_one}
use Rattle.m161_debug.proofs.jump.steps_from.Goals as goal

pub loop-last-init : goal.loop-last-init
loop-last-init g c =
    let log = c.args.past.now.log in
    let one : c.args.first + 1 - c.args.first ≡ 1 = omega arith in
    let inside : c.args.first < length log = omega (arith, c.requires.inside.0, c.requires.inside.1) in
    record {
      steps = subst (λ (n : ℕ). take n (drop c.args.first (events_of log)) ≡ replicate n (Step c.args.p)) (sym one) (run_of_one log c.args.first (Step c.args.p) inside c.requires.step);
      some = omega arith;
      within = omega (arith, c.requires.inside.0);
    }

pub loop-last-preserved : goal.loop-last-preserved
loop-last-preserved g c =
    let log = c.args.past.now.log in
    let same : c.is_step_of.result ≡ true = search rules in
    let inside : c.loop-last.last < length log = omega (arith, c.requires.inside.1) in
    let some = c.loop-last.invariant.some in
    record {
      steps = run_more log c.args.first c.loop-last.last (Step c.args.p) (omega (arith, some)) inside (c.is_step_of.ensures same) c.loop-last.invariant.steps;
      some = omega (arith, some);
      within = omega arith;
    }
