use Rattle.std.proofs.Common.{◌≡◌, ◌∙◌, [], ap, arith, inl, refl, rules, subst, sym, Bool}
use Rattle.std.specs.Prelude.{MatchBool}
use Rattle.m161_states.specs.Question.{Question}
use Rattle.m161_reach.specs.From.{IsFreeFrom, IsHungFrom, asked_of, with_known}
use Rattle.m161_reach.specs.Reach.{rules_of}
use Rattle.m161_reach.specs.helpers.Onward.{Origin, says_hung}
use Rattle.m161_reach.proofs.Knowing.{less_left, news_below}
use Rattle.m161_reach.proofs.Learning.{answers_at, hung_or_free, still_told, stopped_at, stopped_news}
use Rattle.m161_reach.proofs.hang.hangs_from.Goals as goal

pub returns-then-is_end_of : goal.returns-then-is_end_of
unfolding rules_of
returns-then-is_end_of g c = inl ([], c.args.place.now, refl, sym c.is_end_of.ensures ∙ c.if-is_end_of.true)

pub insert-requires : goal.insert-requires
insert-requires g c =
    let boot = c.args.boot.now.state in
    let goal = c.args.goal.now in
    let q = asked_of boot goal in
    let known = c.loop-unknown.known in
    let es = c.args.events.now in
    let x = c.args.place.now in
    let u = c.in-Ended.unknown in
    let answer = c.in_ok-answer.answer in
    let is : c.new-onward.result ≡ record { question = with_known known q; events = es } =
    c.new-onward.ensures ∙ ap (λ (r : Question). let o : Origin = record { question = r; events = es } in o) c.new-machines.ensures in
    let answers = answers_at q known es c.new-onward.result x c.args.limit answer is c.requires.from c.in_ok-answer.ensures in
    let news = stopped_news (with_known known q) x u (stopped_at q known x c.args.limit answer u c.in-Ended.is answers) in
    let number = c.law.ensures.number in
    let few = c.law.ensures.few in
    news_below boot goal known u c.requires.asked (omega (arith, number, few)) news

pub loop-unknown-smaller : goal.loop-unknown-smaller
loop-unknown-smaller g c =
    let boot = c.args.boot.now.state in
    let goal = c.args.goal.now in
    let q = asked_of boot goal in
    let known = c.loop-unknown.known in
    let es = c.args.events.now in
    let x = c.args.place.now in
    let u = c.in-Ended.unknown in
    let answer = c.in_ok-answer.answer in
    let is : c.new-onward.result ≡ record { question = with_known known q; events = es } =
    c.new-onward.ensures ∙ ap (λ (r : Question). let o : Origin = record { question = r; events = es } in o) c.new-machines.ensures in
    let answers = answers_at q known es c.new-onward.result x c.args.limit answer is c.requires.from c.in_ok-answer.ensures in
    let news = stopped_news (with_known known q) x u (stopped_at q known x c.args.limit answer u c.in-Ended.is answers) in
    let number = c.law.ensures.number in
    let few = c.law.ensures.few in
    let below = news_below boot goal known u c.requires.asked (omega (arith, number, few)) news in
    less_left known c.insert.new.self u.processor u.reads below news.outside c.insert.ensures.same c.insert.ensures.others

pub loop-unknown-preserved : goal.loop-unknown-preserved
loop-unknown-preserved g c =
    let q = asked_of c.args.boot.now.state c.args.goal.now in
    let known = c.loop-unknown.known in
    let es = c.args.events.now in
    let x = c.args.place.now in
    let u = c.in-Ended.unknown in
    let answer = c.in_ok-answer.answer in
    let is : c.new-onward.result ≡ record { question = with_known known q; events = es } =
    c.new-onward.ensures ∙ ap (λ (r : Question). let o : Origin = record { question = r; events = es } in o) c.new-machines.ensures in
    let answers = answers_at q known es c.new-onward.result x c.args.limit answer is c.requires.from c.in_ok-answer.ensures in
    still_told q x known c.insert.new.self u (stopped_at q known x c.args.limit answer u c.in-Ended.is answers) c.insert.ensures.same c.insert.ensures.others
    c.loop-unknown.invariant

pub returns-in_default : goal.returns-in_default
returns-in_default g c =
    let q = asked_of c.args.boot.now.state c.args.goal.now in
    let known = c.loop-unknown.known in
    let es = c.args.events.now in
    let x = c.args.place.now in
    let answer = c.in_ok-answer.answer in
    let is : c.new-onward.result ≡ record { question = with_known known q; events = es } =
    c.new-onward.ensures ∙ ap (λ (r : Question). let o : Origin = record { question = r; events = es } in o) c.new-machines.ensures in
    let answers = answers_at q known es c.new-onward.result x c.args.limit answer is c.requires.from c.in_ok-answer.ensures in
    let on = sym c.is_end_of.ensures ∙ c.if-is_end_of.false in
    let says : c.says_hung.result ≡ says_hung c.args.limit answer =
    first_of (search rules, cc (c.says_hung.ensures, c.in_default.answer-is), grind (arith, c.says_hung.ensures, c.in_default.answer-is)) in
    subst (λ (b : Bool). MatchBool b (IsHungFrom q c.args.limit x) (IsFreeFrom q c.args.limit x)) (sym says)
    (hung_or_free q known x c.args.limit answer answers c.in_default.not-Ended on c.loop-unknown.invariant)
