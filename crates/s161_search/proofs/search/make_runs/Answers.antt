use Rattle.std.proofs.Common.{◌≡◌, ◌∙◌, ap, rules, subst}
use Rattle.m161_judge.specs.Verdict.{Criteria}
use Rattle.m161_machine.specs.State.{CoreValue, State}
use Rattle.m161_reach.specs.From.{asked_of, no_time, with_known}
use Rattle.m161_reach.specs.Reach.{CanBeAsked}
use Rattle.m161_reach.specs.Told.{ends_of}
use Rattle.s161_search.specs.Given.{criteria_of}
use Rattle.s161_search.specs.helpers.Inputs.{given_of}
use Rattle.s161_search.proofs.Booting.{begins}
use Rattle.s161_search.proofs.search.make_runs.Goals as goal

pub can_be_asked-requires : goal.can_be_asked-requires
can_be_asked-requires g c =
    let boot = begins (given_of c.args.inputs.now) c.args.booted.now c.requires.booted in
    (boot.start, ap (λ (k : CoreValue). k.state) c.deref-core.ensures ∙ c.in_ok-boxed.ensures ∙ boot.state_is)

pub make_orders-requires-clause-begins : goal.make_orders-requires-clause-begins
make_orders-requires-clause-begins g c = λ κs outlive.
    let criteria = ends_of (criteria_of (given_of c.args.inputs.now)) in
    let state : c.deref-core.result.now.state ≡ c.args.booted.now =
    ap (λ (k : CoreValue). k.state) c.deref-core.ensures ∙ c.in_ok-boxed.ensures in
    let can : CanBeAsked c.deref-core.result.now.state c.ends-goal.result = search rules in
    record {
      boots = c.requires.booted;
      asks = record {
        can =
            subst (λ (x : State). CanBeAsked x criteria) state
            (subst (λ (k : Criteria). CanBeAsked c.deref-core.result.now.state k) c.ends-goal.ensures can);
        asks = ap (with_known no_time) c.new-ends.ensures ∙ (λ i. asked_of (state i) (c.ends-goal.ensures i));
      };
    }
