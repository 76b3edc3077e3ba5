use Rattle.std.proofs.Common.{arith}
use Rattle.m161_reach.specs.Reach.{question_of}
use Rattle.m161_reach.proofs.Knowing.{ended, less_left, news_below, nothing_learnt, still_learnt}
use Rattle.m161_reach.proofs.whole.explore_machine_with.Goals as goal

pub loop-unknown-smaller : goal.loop-unknown-smaller
loop-unknown-smaller g c =
    let boot = c.args.boot.now.state in
    let goal = c.args.goal.now in
    let known = c.loop-unknown.known in
    let u = c.in-Ended.unknown in
    let news = ended c.new-machines.result (question_of boot goal known) _ c.in_ok-answer.answer u c.in_ok-answer.ensures c.in-Ended.is c.new-machines.ensures in
    let number = c.law.ensures.number in
    let few = c.law.ensures.few in
    let below = news_below boot goal known u c.requires.asked (omega (arith, number, few)) news in
    less_left known c.insert.new.self u.processor u.reads below news.outside c.insert.ensures.same c.insert.ensures.others

pub insert-requires : goal.insert-requires
insert-requires g c =
    let boot = c.args.boot.now.state in
    let goal = c.args.goal.now in
    let known = c.loop-unknown.known in
    let u = c.in-Ended.unknown in
    let news = ended c.new-machines.result (question_of boot goal known) _ c.in_ok-answer.answer u c.in_ok-answer.ensures c.in-Ended.is c.new-machines.ensures in
    let number = c.law.ensures.number in
    let few = c.law.ensures.few in
    news_below boot goal known u c.requires.asked (omega (arith, number, few)) news

pub loop-unknown-init : goal.loop-unknown-init
loop-unknown-init g c = nothing_learnt c.args.boot.now.state c.args.goal.now c.nothing-known.result c.nothing-known.ensures

pub loop-unknown-preserved : goal.loop-unknown-preserved
loop-unknown-preserved g c =
    still_learnt c.args.boot.now.state c.args.goal.now c.loop-unknown.known c.insert.new.self c.in-Ended.unknown _ c.new-machines.result c.in_ok-answer.answer
    c.in_ok-answer.ensures c.in-Ended.is c.new-machines.ensures c.insert.ensures.same c.insert.ensures.others c.loop-unknown.invariant
