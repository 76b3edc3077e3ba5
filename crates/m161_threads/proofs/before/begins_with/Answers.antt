use Rattle.std.proofs.Common.{◌≡◌, ◌∙◌, length, get_or, ◌<◌, arith}
use Rattle.std.proofs.lemmas.List.{get_or_default, take_more_same}
use Rattle.std.proofs.lemmas.Option.{get_or_from_slice_get}
use Rattle.m161_threads.proofs.before.begins_with.Goals as goal

pub loop-i-preserved : goal.loop-i-preserved
loop-i-preserved g c =
    let log = c.args.machine.now.log in
    let entries = c.args.entries.now in
    let inside : c.loop-i.i < length log = omega (arith, c.requires, c.loop-i-test.true) in
    let there : get_or log c.loop-i.i c.log_at.result ≡ c.log_at.result =
    get_or_from_slice_get log c.loop-i.i c.log_at.result c.log_at.result c.log_at.ensures in
    take_more_same log entries c.loop-i.i c.log_at.result inside c.loop-i-test.true c.loop-i.invariant
    (there ∙ c.is_same.ensures c.if-not-is_same.false
    ∙ get_or_default entries c.loop-i.i _ c.log_at.result c.loop-i-test.true)
