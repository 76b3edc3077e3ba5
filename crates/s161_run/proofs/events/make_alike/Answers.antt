use Rattle.std.proofs.Common.{◌≡◌, ◌+◌, ◌<◌, ◌≤◌, length, take, drop, subst, Some, MatchOption, arith}
use Rattle.std.proofs.lemmas.List.{length-append, length-drop, length-take-le}
use Rattle.m161_drive.specs.Drive.{IsNoted}
use Rattle.m161_drive.proofs.Driving.{take_front}
use Rattle.m161_machine.specs.History.{Refuses}
use Rattle.m161_machine.specs.State.{next}
use Rattle.s161_run.proofs.Making.{again_ends, again_more}
use Rattle.s161_run.proofs.events.make_alike.Goals as goal

pub returns-in-Some-clause-alike : goal.returns-in-Some-clause-alike
returns-in-Some-clause-alike g c =
    let has = g.N.Notes.has in
    let s = c.args.core.now.state in
    let t = c.loop-made.core.state in
    let u = c.make_some-more.new.core.state in
    let e = c.args.event in
    let n = c.make_some-more.result.0 in
    let places = c.make_some-more.new.entries in
    let rest = drop c.min-most.result c.loop-made.entries in
    let front = take c.min-most.result c.loop-made.entries in
    let made = c.loop-made.made in
    let long = c.loop-made.invariant.1 in
    let most = c.min-most.ensures in
    let size : length places ≡ length front = c.make_some-more.ensures.length in
    let first : length front ≡ c.min-most.result = length-take-le c.min-most.result c.loop-made.entries (omega (arith, most, long)) in
    let why : (n < length front) × Refuses (next u e) e c.in-Some.refusal =
    subst (λ o. MatchOption o (n ≡ length front) (λ r. (n < length front) × Refuses (next u e) e r)) c.in-Some.is c.make_some-more.ensures.why in
    let less = why.0 in
    let inside : n ≤ length places = omega (arith, less, size) in
    let noted = subst (λ es. IsNoted has c.loop-made.notes es c.add.new.self) (take_front n places rest inside) c.in_ok-add.ensures in
    let below = c.loop-made-test.true in
    again_ends has s u c.args.notes.now c.add.new.self e c.args.times (made + n) (Some c.in-Some.refusal)
    (again_more has s t u c.args.notes.now c.loop-made.notes c.add.new.self e made n (take n places) c.loop-made.invariant.0
    (length-take-le n places inside) c.make_some-more.ensures.made noted)
    (omega (arith, less, first, most, below), why.1)

pub loop-made-preserved : goal.loop-made-preserved
loop-made-preserved g c =
    let has = g.N.Notes.has in
    let s = c.args.core.now.state in
    let t = c.loop-made.core.state in
    let u = c.make_some-more.new.core.state in
    let e = c.args.event in
    let n = c.make_some-more.result.0 in
    let places = c.make_some-more.new.entries in
    let rest = drop c.min-most.result c.loop-made.entries in
    let front = take c.min-most.result c.loop-made.entries in
    let made = c.loop-made.made in
    let long = c.loop-made.invariant.1 in
    let most = c.min-most.ensures in
    let size : length places ≡ length front = c.make_some-more.ensures.length in
    let first : length front ≡ c.min-most.result = length-take-le c.min-most.result c.loop-made.entries (omega (arith, most, long)) in
    let all : n ≡ length front =
    subst (λ o. MatchOption o (n ≡ length front) (λ r. (n < length front) × Refuses (next u e) e r)) c.in_default.is c.make_some-more.ensures.why in
    let inside : n ≤ length places = omega (arith, all, size) in
    let noted = subst (λ es. IsNoted has c.loop-made.notes es c.add.new.self) (take_front n places rest inside) c.in_ok-add.ensures in
    let below = c.loop-made-test.true in
    let sum = length-append places rest in
    let end = length-drop c.min-most.result c.loop-made.entries in (
      again_more has s t u c.args.notes.now c.loop-made.notes c.add.new.self e made n (take n places) c.loop-made.invariant.0
          (length-take-le n places inside) c.make_some-more.ensures.made noted,
      omega (arith, sum, end, size, first, long, most),
      omega (arith, all, first, most, below),
    )
