use Rattle.std.proofs.Common.{arith, inr, subst, sym}
use Rattle.m161_reach.specs.Exploring.{Exploring, IsExploring, LearnsMore}
use Rattle.m161_reach.specs.Reach.{question_of}
use Rattle.m161_reach.proofs.Knowing.{news_below}
use Rattle.m161_reach.proofs.Parts.{is_begun_anew, learns_more, part_news}
use Rattle.m161_reach.proofs.exploring.go_on_machine.Goals as goal

pub insert-requires : goal.insert-requires
insert-requires g c =
    let boot = c.args.boot.now.state in
    let goal = c.args.goal.now in
    let known = c.exploring.inside.known in
    let u = c.in-Some-Ended.unknown in
    let news = part_news c.new-machines.result (question_of boot goal known) _ _ c.exploring.inside.unfinished c.go_on.new.unfinished c.in_ok-answer.answer c.in-Some-Ended.field-0 u c.in_ok-answer.ensures c.in-Some-Ended.is c.in-Some-Ended.field-0-is c.new-machines.ensures in
    news_below boot goal known u c.requires.asked (omega (arith, c.law.ensures.number, c.law.ensures.few)) news

pub returns-in_ok-exploring-inside-in-Some-Ended : goal.returns-in_ok-exploring-inside-in-Some-Ended
returns-in_ok-exploring-inside-in-Some-Ended g c =
    let boot = c.args.boot.now.state in
    let goal = c.args.goal.now in
    let old = c.exploring.inside.known in
    let new = c.insert.new.self in
    let u = c.in-Some-Ended.unknown in
    let before = c.exploring.inside.unfinished in
    let after = c.go_on.new.unfinished in
    let fresh = c.in_ok-exploring-inside-in-Some-Ended.field-0 in
    let limit = c.args.limit in
    let inside : Exploring = record { known = old; unfinished = before } in
    let was : IsExploring boot goal limit inside = subst (IsExploring boot goal limit) (sym c.exploring.view_is) c.requires.exploring in
    let news = part_news c.new-machines.result (question_of boot goal old) _ _ before after c.in_ok-answer.answer c.in-Some-Ended.field-0 u c.in_ok-answer.ensures c.in-Some-Ended.is c.in-Some-Ended.field-0-is c.new-machines.ensures in
    let below = news_below boot goal old u c.requires.asked (omega (arith, c.law.ensures.number, c.law.ensures.few)) news in
    let more : LearnsMore old new = learns_more boot goal old new u news below c.insert.ensures.same c.insert.ensures.others in (
      is_begun_anew boot goal limit _ old new c.new-machines.result c.new-machines-in-Some-Ended.result before after fresh c.in_ok-answer.answer c.in-Some-Ended.field-0 u
          c.in_ok-answer.ensures c.in-Some-Ended.is c.in-Some-Ended.field-0-is c.new-machines.ensures c.insert.ensures.same c.insert.ensures.others
          (c.in_ok-exploring-inside-in-Some-Ended.ensures.unfinished limit c.requires.some) c.new-machines-in-Some-Ended.ensures was,
      inr (subst (λ (e : Exploring). LearnsMore e.known new) c.exploring.view_is more, c.in_ok-exploring-inside-in-Some-Ended.ensures.start),
    )
