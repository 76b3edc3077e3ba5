use Rattle.std.proofs.Common.{◌≡◌, ◌+◌, arith, [], ◌∷◌, length, replicate, subst}
use Rattle.std.proofs.lemmas.List.{length-replicate, replicate_more}
use Rattle.m161_refusals.specs.helpers.Passing.{IsWithin, Passes}
use Rattle.m161_refusals.proofs.Passing.{passes_more}
use Rattle.m161_refusals.proofs.refusals.pass_run.Goals as goal

pub loop-made-preserved : goal.loop-made-preserved
loop-made-preserved g c =
    let e = c.args.event in
    let made = c.loop-made.made in
    let s = c.args.core.now.state in
    let t = c.pass.new.core.state in
    let long = length-replicate made e in
    let place : c.args.place + made ≡ c.args.place + length (replicate made e) = omega (arith, long) in
    let more = passes_more s c.loop-made.core.state t (replicate made e) (e ∷ []) c.args.place (c.args.place + made) c.args.found c.loop-made.found c.in_ok-found.found place
    c.loop-made.invariant.passes c.in_ok-found.ensures.passes in
    let one : c.args.place + made + 1 ≡ c.args.place + (made + 1) = omega arith in
    record {
      passes = subst (λ es. Passes s es c.args.place c.args.found t c.in_ok-found.found) (replicate_more made e) more;
      within = subst (λ k. IsWithin k c.in_ok-found.found) one c.in_ok-found.ensures.within;
    }
