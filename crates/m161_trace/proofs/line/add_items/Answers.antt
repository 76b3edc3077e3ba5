use Rattle.std.proofs.Common.{◌≡◌, ◌⊎◌, ap, subst, ℕ, true, false, Option}
use Rattle.std.specs.Prelude.{is_some}
use Rattle.m161_cpu.specs.Fetch.{fetched_word}
use Rattle.m161_cpu.specs.declared.uses.Uses.{Uses}
use Rattle.m161_machine.specs.State.{processor_at}
use Rattle.m161_trace.specs.Items.{items}
use Rattle.m161_trace.specs.helpers.Far.{is_far_found}
use Rattle.m161_trace.proofs.Near.{near}
use Rattle.m161_trace.proofs.Spaced.{both_in, both_in_ok}
use Rattle.m161_trace.proofs.line.add_items.Goals as goal

pub add_processor-requires-clause-near : goal.add_processor-requires-clause-near
add_processor-requires-clause-near g c = λ h.
    let F : Option ℕ → Type 0 = λ fetch. (is_far_found fetch ≡ false) ⊎ (is_some c.uses-stored.result.stored ≡ true) in
    let S : Option ℕ → Type 0 = λ stored. (is_far_found (fetched_word c.args.before.now.state.memory (processor_at c.args.p c.args.before.now.state.processors).pc (processor_at c.args.p c.args.before.now.state.processors)) ≡ false) ⊎ (is_some stored ≡ true) in
    near c.args.p c.args.before.now.state c.args.outcome c.args.after.now.state c.requires.accepted
    (subst S (ap (λ (u : Uses). u.stored) c.uses-stored.ensures.value) (subst F c.requires.fetch (c.is_far_step-far.ensures h)))

pub add_shared-requires-clause-near : goal.add_shared-requires-clause-near
add_shared-requires-clause-near g c = λ h.
    let F : Option ℕ → Type 0 = λ fetch. (is_far_found fetch ≡ false) ⊎ (is_some c.uses-stored.result.stored ≡ true) in
    let S : Option ℕ → Type 0 = λ stored. (is_far_found (fetched_word c.args.before.now.state.memory (processor_at c.args.p c.args.before.now.state.processors).pc (processor_at c.args.p c.args.before.now.state.processors)) ≡ false) ⊎ (is_some stored ≡ true) in
    near c.args.p c.args.before.now.state c.args.outcome c.args.after.now.state c.requires.accepted
    (subst S (ap (λ (u : Uses). u.stored) c.uses-stored.ensures.value) (subst F c.requires.fetch (c.is_far_step-far.ensures h)))

pub returns : goal.returns
unfolding items
returns g c = both_in_ok _ c.args.style.now _ _ _ _ _ (both_in c.args.style.now _ _ _ _ _ (both_in c.args.style.now _ _ _ _ _ c.in_ok-add_processor.ensures c.in_ok-add_shared.ensures) (c.in_ok-add_outcome.ensures c.args.style.now)) c.add_starts_of.ensures
