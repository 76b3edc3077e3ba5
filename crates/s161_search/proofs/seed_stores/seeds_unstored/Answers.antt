use Rattle.std.proofs.Common.{ℕ, Bool, true, false, subst}
use Rattle.m161_jobs.specs.Answers.{IsAnswer}
use Rattle.s161_search.specs.helpers.Inputs.{given_of}
use Rattle.s161_search.specs.helpers.Storing.{SeedStoresFrom}
use Rattle.s161_search.proofs.Storing.{no_seed_stores}
use Rattle.s161_search.proofs.seed_stores.seeds_unstored.Goals as goal

pub returns-in-Clean-clause-ok : goal.returns-in-Clean-clause-ok
returns-in-Clean-clause-ok g c =
    let given = given_of c.args.basis.now.inputs.now in
    let s = c.args.basis.now.booted.now in
    let start = c.args.basis.now.start.now in
    let right : ℕ → Bool → Type 0 = λ k is_cut. SeedStoresFrom s start c.args.basis.now.task given c.args.word k false in
    let wrong : ℕ → Unit {0} → Type 0 = λ k found. SeedStoresFrom s start c.args.basis.now.task given c.args.word k true in
    no_seed_stores s start c.args.basis.now.task given c.args.word c.in-Clean.cut c.requires.booted c.requires.started
    (subst (IsAnswer right wrong c.args.basis.now.task.seeds) c.in-Clean.is c.in_ok-try_each.ensures.ok)
