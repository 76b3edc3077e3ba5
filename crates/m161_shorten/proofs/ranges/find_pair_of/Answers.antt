use Rattle.std.proofs.Common.{◌∙◌, sym, drop}
use Rattle.m161_shorten.specs.helpers.Ranges.{find_step}
use Rattle.m161_shorten.proofs.Finding.{before_none, before_some}
use Rattle.m161_shorten.proofs.Pairs.{begins_step, pair_none, pair_some}
use Rattle.m161_shorten.proofs.ranges.find_pair_of.Goals as goal

pub returns-in-Some-clause-trials : goal.returns-in-Some-clause-trials
returns-in-Some-clause-trials c =
    let es = c.args.events.now in
    let b = c.block_end-between.result in
    let first = begins_step (drop c.args.start es) c.args.p c.requires.step in
    let found = before_some b (find_step c.args.p (drop b es)) c.in-Some.next (sym c.find_step_from.ensures.value ∙ c.in-Some.is) in
    pair_some es c.args.start c.args.p b c.in-Some.next c.block_end.result found.0 first.0 c.requires.start first.1 c.block_end-between.ensures.value found.1 found.2 c.block_end.ensures.value

pub returns-in-None-clause-trials : goal.returns-in-None-clause-trials
returns-in-None-clause-trials c =
    let es = c.args.events.now in
    let b = c.block_end-between.result in
    let first = begins_step (drop c.args.start es) c.args.p c.requires.step in
    pair_none es c.args.start c.args.p b first.0 first.1 c.block_end-between.ensures.value
    (before_none b (find_step c.args.p (drop b es)) (sym c.find_step_from.ensures.value ∙ c.in-None.is))
