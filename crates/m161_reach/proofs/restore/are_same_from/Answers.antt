use Rattle.std.proofs.Common.{◌≡◌, ◌∙◌, ap, sym, arith, ◌+◌, ◌-◌, take, drop}
use Rattle.std.specs.List.{slice_range}
use Rattle.std.proofs.lemmas.Slice.Eq.{bytes_eq-Decides}
use Rattle.m161_reach.proofs.restore.are_same_from.Goals as goal

pub returns-then-end-kept-clause-same : goal.returns-then-end-kept-clause-same
returns-then-end-kept-clause-same c = λ yes.
    let first = c.args.first in
    let long : first + 245 - first ≡ 245 = omega arith in
    let same : slice_range c.args.kept.now first (first + 245) ≡ slice_range c.args.words.now first (first + 245) = grind (arith, bytes_eq-Decides, c.eq.ensures, yes) in
    ap (λ n. take n (drop first c.args.kept.now)) (sym long) ∙ same ∙ ap (λ n. take n (drop first c.args.words.now)) long
