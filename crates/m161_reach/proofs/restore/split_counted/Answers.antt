use Rattle.std.proofs.Common.{◌∙◌, ap, sym, List, arith, drop, get_or, length}
use Rattle.std.proofs.lemmas.List.{length-append}
use Rattle.m161_reach.proofs.Splitting.{rest_all}
use Rattle.m161_reach.proofs.restore.split_counted.Goals as goal

pub split-requires : goal.split-requires
split-requires c =
    let a = c.requires.0 in
    let b = c.requires.1 in
    let is = c.requires.2 in
    let first = ap (λ (l : List _). get_or l 0 0) is in
    let all = ap length is in
    let both = length-append a b in
    let rest = ap length (rest_all 1 c.args.words.now ∙ ap (drop 1) is) in
    omega (arith, first, all, both, rest)

pub returns : goal.returns
returns c = λ a b is.
    c.split.ensures a b (sym (ap (λ (l : List _). get_or l 0 0) is)) (rest_all 1 c.args.words.now ∙ ap (drop 1) is)
