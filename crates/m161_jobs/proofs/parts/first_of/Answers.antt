use Rattle.std.proofs.Common.{◌≡◌, ◌∙◌, refl, ap, sym, subst, ◌+◌, ◌-◌, ◌++◌, [], ◌∷◌, length, arith}
use Rattle.std.proofs.lemmas.List.{append_assoc, length-append}
use Rattle.std.specs.List.{range_with_len}
use Rattle.m161_jobs.specs.Trials.{AreRight}
use Rattle.m161_jobs.specs.helpers.Parts.{part_start}
use Rattle.m161_jobs.proofs.Joining.{part_more, part_wrong, range_few, start_zero}
use Rattle.m161_jobs.proofs.parts.first_of.Goals as goal

pub overflow_add-cut : goal.overflow_add-cut
overflow_add-cut g c =
    let trials = c.args._trials.now in
    let right = g.T.Trials.right trials in
    let before = c.loop-part.yielded in
    let rest = c.next.new.self.rest.items in
    let more = part_more right (g.T.Trials.wrong trials) (g.T.Trials.fails trials) c.args.from c.args.count c.args.size c.loop-part.cut c.in-Clean.more
    c.args.parts.items before rest c.in-Some.part c.in_ok-more.field-0 c.requires.ordered c.requires.parts
    (c.loop-part.invariant.parts ∙ ap (λ xs. before ++ xs) c.in-Some.ensures.steps.0) c.in_ok-more.was c.in-Clean.is c.loop-part.invariant.right in
    let few = range_few right c.args.from (part_start c.args.from c.args.count c.args.size (length before + 1)) (c.loop-part.cut + c.in-Clean.more) more in
    let fits = c.ranges.count.fits in
    omega (arith, few, fits)

pub loop-part-init : goal.loop-part-init
loop-part-init g c =
    let zero = start_zero c.args.from c.args.count c.args.size c.requires.ordered in
    let none : 0 ≡ part_start c.args.from c.args.count c.args.size 0 - c.args.from = omega (arith, zero) in
    record {
      parts = sym c.into_iter-part-iterator.ensures.into_iter_gives.0;
      right = subst (λ n. AreRight (g.T.Trials.right c.args._trials.now) (range_with_len c.args.from n) 0) none refl;
    }

pub loop-part-preserved : goal.loop-part-preserved
loop-part-preserved g c =
    let trials = c.args._trials.now in
    let right = g.T.Trials.right trials in
    let before = c.loop-part.yielded in
    let part = c.in-Some.part in
    let rest = c.next.new.self.rest.items in
    let more = part_more right (g.T.Trials.wrong trials) (g.T.Trials.fails trials) c.args.from c.args.count c.args.size c.loop-part.cut c.in-Clean.more
    c.args.parts.items before rest part c.in_ok-more.field-0 c.requires.ordered c.requires.parts
    (c.loop-part.invariant.parts ∙ ap (λ xs. before ++ xs) c.in-Some.ensures.steps.0) c.in_ok-more.was c.in-Clean.is c.loop-part.invariant.right in
    let long : length before + 1 ≡ length (before ++ part ∷ []) = sym (length-append before (part ∷ [])) in
    record {
      parts = c.loop-part.invariant.parts ∙ ap (λ xs. before ++ xs) c.in-Some.ensures.steps.0 ∙ sym (append_assoc before (part ∷ []) rest);
      right =
          subst (λ n. AreRight right (range_with_len c.args.from (part_start c.args.from c.args.count c.args.size n - c.args.from))
          (c.loop-part.cut + c.in-Clean.more)) long more;
    }

pub returns-in-Wrong-clause-ok : goal.returns-in-Wrong-clause-ok
returns-in-Wrong-clause-ok g c =
    let trials = c.args._trials.now in
    let before = c.loop-part.yielded in
    part_wrong (g.T.Trials.right trials) (g.T.Trials.wrong trials) (g.T.Trials.fails trials) c.args.from c.args.count c.args.size c.loop-part.cut
    c.in-Wrong.place c.in-Wrong.wrong c.args.parts.items before c.next.new.self.rest.items c.in-Some.part c.in_ok-more.field-0 c.requires.ordered
    c.requires.parts (c.loop-part.invariant.parts ∙ ap (λ xs. before ++ xs) c.in-Some.ensures.steps.0) c.in_ok-more.was c.in-Wrong.is
    c.loop-part.invariant.right

pub returns-clause-ok : goal.returns-clause-ok
returns-clause-ok g c =
    let rest = c.loop-part.part-iterator.rest in
    let size = ap length c.loop-part.invariant.parts ∙ length-append c.loop-part.yielded rest.items in
    let long = rest.ok.0 in
    let none = c.in-None.ensures.steps.0 in
    let all : length c.loop-part.yielded ≡ length c.args.parts.items = omega (arith, size, long, none) in
    subst (λ n. AreRight (g.T.Trials.right c.args._trials.now)
    (range_with_len c.args.from (part_start c.args.from c.args.count c.args.size n - c.args.from)) c.loop-part.cut) all c.loop-part.invariant.right
