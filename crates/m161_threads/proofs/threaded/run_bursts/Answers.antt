use Rattle.std.proofs.Common.{◌≡◌, ◌∙◌, refl, sym, subst, ℕ, Bool, true, false, Option, None, Some, Result, Ok, Err, length, arith}
use Rattle.std.specs.Prelude.{IfErr, IfOk, MatchResult, nat_eq, if◌then◌else◌}
use Rattle.std.proofs.lemmas.Bool.Decides.{nat_tests}
use Rattle.m161_machine.specs.History.{History, IsReplay}
use Rattle.m161_cause.specs.declared.cause.Cause.{Cause}
use Rattle.m161_cause.specs.declared.cause.Cause.TheVariants.{BadQuotas, BadBurst}
use Rattle.m161_threads.specs.Runs.{FailsRun, bad_call, is_burst}
use Rattle.m161_threads.proofs.threaded.run_bursts.Goals as goal

-- another number of quotas than processors; as many, but no burst; and a call that isn't bad

other_number : (same burst : Bool) (machine : History) → same ≡ false →
    FailsRun (if same then (if burst then None else Some BadBurst) else Some BadQuotas) machine BadQuotas machine
other_number false burst machine _ = (refl, refl)
other_number true burst machine is = absurd (let bad : true ≡ false = is in cc)

no_burst : (same burst : Bool) (machine : History) → same ≡ true → burst ≡ false →
    FailsRun (if same then (if burst then None else Some BadBurst) else Some BadQuotas) machine BadBurst machine
no_burst true false machine _ _ = (refl, refl)
no_burst true true machine _ is = absurd (let bad : true ≡ false = is in cc)
no_burst false burst machine is _ = absurd (let bad : false ≡ true = is in cc)

well_called : (same burst : Bool) → same ≡ true → burst ≡ true →
    ◌≡◌ {A = Option Cause} (if same then (if burst then None else Some BadBurst) else Some BadQuotas) None
well_called true true _ _ = refl
well_called true false _ is = absurd (let bad : false ≡ true = is in cc)
well_called false burst is _ = absurd (let bad : false ≡ true = is in cc)

none_at : (quotas processors longest number : ℕ) → quotas ≡ number → number ≡ processors → is_burst longest ≡ true →
    bad_call quotas processors longest ≡ None
none_at quotas processors longest number same given burst =
    well_called (nat_eq quotas processors) (is_burst longest) (grind (arith, nat_tests, same, given)) burst

-- what each result of a run says
replays : {R F : Type 0} (P : R → Type 0) (N Q : F → Type 0) (r : Result R F) → IfOk r P → IfErr r N → ((f : F) → N f → Q f) → MatchResult r P Q
replays P N Q (Ok x) ok err from = ok
replays P N Q (Err f) ok err from = from f err

any_ok : {R F : Type 0} (P : R → Type 0) (r : Result R F) → ((x : R) → P x) → IfOk r P
any_ok P (Ok x) all = all x
any_ok P (Err f) all = tt

any_err : {R F : Type 0} (P Q : F → Type 0) (r : Result R F) → IfErr r P → ((f : F) → P f → Q f) → IfErr r Q
any_err P Q (Ok x) h from = tt
any_err P Q (Err f) h from = from f h

pub returns-then-quotas-processors-clause-err : goal.returns-then-quotas-processors-clause-err
returns-then-quotas-processors-clause-err g c =
    let number = c.processors-processors.ensures in
    let other = c.if-quotas-processors.true in
    other_number (nat_eq (length c.args.quotas.now) (length c.args.machine.state.processors)) (is_burst c.args.longest) c.args.machine
    (grind (arith, nat_tests, other, number))

pub returns-then-not-is_burst-clause-err : goal.returns-then-not-is_burst-clause-err
returns-then-not-is_burst-clause-err g c =
    let number = c.processors-processors.ensures in
    let same = c.if-quotas-processors.false in
    no_burst (nat_eq (length c.args.quotas.now) (length c.args.machine.state.processors)) (is_burst c.args.longest) c.args.machine
    (grind (arith, nat_tests, same, number)) (sym c.is_burst.ensures ∙ c.if-not-is_burst.true)

pub returns-clause-begun : goal.returns-clause-begun
returns-clause-begun g c =
    let none = none_at (length c.args.quotas.now) (length c.args.machine.state.processors) c.args.longest c.processors-processors.result
    (let same = c.if-quotas-processors.false in grind (arith, nat_tests, same)) c.processors-processors.ensures
    (sym c.is_burst.ensures ∙ c.if-not-is_burst.false) in
    any_ok (λ _. bad_call (length c.args.quotas.now) (length c.args.machine.state.processors) c.args.longest ≡ None)
    c.run_counted.result (λ _. none)

pub returns-clause-err : goal.returns-clause-err
returns-clause-err g c =
    let none = none_at (length c.args.quotas.now) (length c.args.machine.state.processors) c.args.longest c.processors-processors.result
    (let same = c.if-quotas-processors.false in grind (arith, nat_tests, same)) c.processors-processors.ensures
    (sym c.is_burst.ensures ∙ c.if-not-is_burst.false) in
    any_err (λ f. FailsRun None c.args.machine f.cause f.machine)
    (λ f. FailsRun (bad_call (length c.args.quotas.now) (length c.args.machine.state.processors) c.args.longest) c.args.machine f.cause f.machine)
    c.run_counted.result c.run_counted.ensures.err
    (λ f fails. subst (λ (first : Option Cause). FailsRun first c.args.machine f.cause f.machine) (sym none) fails)

pub returns-clause-replay : goal.returns-clause-replay
returns-clause-replay g c =
    replays (λ r. IsReplay r.machine) (λ f. FailsRun None c.args.machine f.cause f.machine) (λ f. IsReplay f.machine)
    c.run_counted.result c.run_counted.ensures.replay c.run_counted.ensures.err (λ f fails. fails.1)
