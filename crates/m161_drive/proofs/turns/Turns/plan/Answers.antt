use Rattle.std.proofs.Common.{◌≡◌, ◌∙◌, ap, inr, length, replicate, arith}
use Rattle.std.proofs.lemmas.List.{length-append, length-replicate}
use Rattle.m161_machine.specs.Stretch.{planned}
use Rattle.m161_drive.proofs.Planned.{turns_planned}
use Rattle.m161_drive.proofs.turns.Turns.plan.Goals as goal

pub returns : goal.returns
returns g c =
    let rest = c.min-rest.result in
    let turn = c.plan_all.new.places in
    let others = c.plan_others.new.places in
    let behind = c.plan_others.ensures in
    let within = behind.within in
    let size = behind.size in
    let front = c.split_at_mut-turn.ensures.front_len in
    let back = c.split_at_mut-turn.ensures.back_len in
    let least = c.min-rest.ensures in
    let zero = c.if-self-eq0.false in
    let most = c.if-self.false in
    let written : turn ≡ replicate rest (planned c.args.p) = c.plan_all.ensures ∙ ap (λ n. replicate n (planned c.args.p)) front in
    let long : length turn ≡ rest = ap length written ∙ length-replicate rest (planned c.args.p) in
    let whole = length-append turn others in
    let plan =
    turns_planned c.args.self.now c.args.p rest c.plan_others.result (length c.args.places.now) c.args.core.now.state turn others c.requires.0
    (omega (arith, zero)) (omega (arith, most)) least written (omega (arith, size, back)) (behind.end, behind.plans) in record {
      end = plan.0;
      plans = plan.1;
      may_go = inr (omega (arith, zero), omega (arith, most));
      within = omega (arith, within, back, least);
      size = omega (arith, whole, long, size, back, least);
    }
