use Rattle.std.proofs.Common.{◌≡◌, ◌∙◌, ap, sym, subst, ◌⊎◌, ◌<◌, ◌++◌, true, take, arith}
use Rattle.m161_machine.specs.History.{Leads}
use Rattle.m161_machine.proofs.Again.{first_step, steps_again}
use Rattle.m161_machine.proofs.state.Core.repeat_steps.Given.{Over}
use Rattle.m161_machine.proofs.state.Core.repeat_steps.Goals as goal

pub advance-all-requires-clause-place : goal.advance-all-requires-clause-place
advance-all-requires-clause-place g c =
    (first_step c.args.p c.args.self.now.state c.requires.accepted.0 c.args.entries.now c.requires.step c.requires.accepted.1).0

pub advance-all-requires-clause-on : goal.advance-all-requires-clause-on
advance-all-requires-clause-on g c =
    (first_step c.args.p c.args.self.now.state c.requires.accepted.0 c.args.entries.now c.requires.step c.requires.accepted.1).1

pub advance-all-requires-clause-few : goal.advance-all-requires-clause-few
advance-all-requires-clause-few g c =
    let few = (first_step c.args.p c.args.self.now.state c.requires.accepted.0 c.args.entries.now c.requires.step c.requires.accepted.1).2 in
    let within = c.steps_at_start-number.ensures.within in
    let long = c.split_at_mut-steps.ensures.front_len in
    omega (arith, few, within, long)

-- all the Steps were made, with the entries that they have
again : (g : Over) (c : goal.After-entries-2-1 g) →
    (c.advance-all.new.kept ≡ take c.steps_at_start-number.result c.args.entries.now)
    × Leads c.args.self.now.state (take c.steps_at_start-number.result c.args.entries.now) c.advance-all.new.self.state
again g c =
    let long = c.split_at_mut-steps.ensures.front_len in
    let within = c.advance-all.ensures.within in
    steps_again c.args.p c.steps_at_start-number.result c.advance-all.result c.args.self.now.state c.advance-all.new.self.state c.requires.accepted.0
    c.args.entries.now c.advance-all.new.kept c.requires.accepted.1 c.steps_at_start-number.ensures.within c.steps_at_start-number.ensures.steps
    c.advance-all.ensures.advances (c.advance-all.ensures.length ∙ long) (omega (arith, within, long))
    (subst (λ n. (c.advance-all.result ≡ n) ⊎ ((c.advance-all.result < n) × (c.advance-all.new.self.state.board.off ≡ true))) long c.advance-all.ensures.end)

pub returns-clause-leads : goal.returns-clause-leads
returns-clause-leads g c = (again g c).1

pub returns-clause-same : goal.returns-clause-same
returns-clause-same g c =
    ap (λ es. es ++ c.split_at_mut-steps.result.1.now) ((again g c).0 ∙ sym c.split_at_mut-steps.ensures.front)
    ∙ sym c.split_at_mut-steps.ensures.value
