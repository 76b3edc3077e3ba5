use Rattle.std.proofs.Common.{◌+◌, arith, rules}
use Rattle.m161_explore.proofs.Parts.{cut_within, next_cut, part_at}
use Rattle.m161_explore.proofs.keys.part.Goals as goal

pub slice_bounds-result-count : goal.slice_bounds-result-count
slice_bounds-result-count c = next_cut c.args.cuts.now _ c.args.index c.requires.cut c.requires.within

pub slice_bounds-result-start : goal.slice_bounds-result-start
slice_bounds-result-start c =
    let h = next_cut c.args.cuts.now _ c.args.index c.requires.cut c.requires.within in search rules

pub slice_bounds-result-end : goal.slice_bounds-result-end
slice_bounds-result-end c =
    let h = cut_within c.args.cuts.now _ (c.args.index + 1) c.requires.cut c.requires.within in search rules

pub offset_bounds-words-start : goal.offset_bounds-words-start
offset_bounds-words-start c =
    let h = cut_within c.args.cuts.now _ c.args.index c.requires.cut (omega (arith, c.requires.within)) in search rules

pub returns : goal.returns
returns c = part_at c.args.cuts.now c.args.words.now c.args.index c.requires.within
