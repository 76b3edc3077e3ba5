use Rattle.std.proofs.Common.{◌≡◌, ◌≢◌, ℕ, ◌<◌, Option, Some, subst}
use Rattle.m161_machine.specs.State.{State}
use Rattle.m161_judge.specs.Verdict.{Criteria}
use Rattle.m161_alike.specs.declared.known.Known.{Known}
use Rattle.m161_alike.specs.View.{joined, known_of}
use Rattle.m161_explore.specs.declared.unfinished.Unfinished.{Unfinished}
use Rattle.m161_explore.specs.declared.whole.Answer.{Answer}
use Rattle.m161_explore.specs.declared.whole.Answer.TheVariants.{Ended}
use Rattle.m161_explore.specs.Answers.{Answers}
use Rattle.m161_explore.specs.Unfinished.{GoesOn, IsUnfinished}
use Rattle.m161_states.specs.declared.verdict.Unknown.{Unknown}
use Rattle.m161_states.specs.declared.verdict.EventVerdict.{EventVerdict}
use Rattle.m161_states.specs.Question.{Question}
use Rattle.m161_reach.specs.Exploring.{IsExploring, LearnsMore}
use Rattle.m161_reach.specs.Hand.{InHand, IsReady}
use Rattle.m161_reach.specs.Reach.{IsMet, question_of, rules_of}
use Rattle.m161_reach.proofs.Knowing.{IsNews, ended, still_learnt}

-- A part of an exploration that ends for what isn't known of time.

pub answers_part : (q : Question) (limit number : ℕ) (before after : Unfinished InHand) (o : Option (Answer EventVerdict Unknown)) (a : Answer EventVerdict Unknown) →
    GoesOn (rules_of q) (IsMet q) (IsReady q) limit number before after o → o ≡ Some a → Answers (rules_of q) limit a
answers_part q limit number before after o a h is = subst (GoesOn (rules_of q) (IsMet q) (IsReady q) limit number before after) is h

pub part_news : (q r : Question) (limit number : ℕ) (before after : Unfinished InHand) (o : Option (Answer EventVerdict Unknown)) (a : Answer EventVerdict Unknown) (u : Unknown) →
    GoesOn (rules_of q) (IsMet q) (IsReady q) limit number before after o → o ≡ Some a → a ≡ Ended u → q ≡ r → IsNews r u
part_news q r limit number before after o a u h is ends same = ended q r limit a u (answers_part q limit number before after o a h is) ends same

-- the states are looked for anew, by more that is known
pub is_begun_anew : (boot : State) (goal : Criteria) (limit number : ℕ) (old new : Known) (q r : Question) (before after fresh : Unfinished InHand) (o : Option (Answer EventVerdict Unknown))
    (a : Answer EventVerdict Unknown) (u : Unknown) →
    GoesOn (rules_of q) (IsMet q) (IsReady q) limit number before after o → o ≡ Some a → a ≡ Ended u → q ≡ question_of boot goal old →
    known_of new u.processor ≡ joined u.reads (known_of old u.processor) → ((p : ℕ) → p < 32 → p ≢ u.processor → known_of new p ≡ known_of old p) →
    IsUnfinished (rules_of r) (IsMet r) (IsReady r) limit fresh → r ≡ question_of boot goal new →
    IsExploring boot goal limit (record { known = old; unfinished = before }) → IsExploring boot goal limit (record { known = new; unfinished = fresh })
is_begun_anew boot goal limit number old new q r before after fresh o a u h is ends same mine others begun anew was = record {
  unfinished = subst (λ x. IsUnfinished (rules_of x) (IsMet x) (IsReady x) limit fresh) anew begun;
  learnt = still_learnt boot goal old new u limit q a (answers_part q limit number before after o a h is) ends same mine others was.learnt;
}

pub learns_more : (boot : State) (goal : Criteria) (old new : Known) (u : Unknown) → IsNews (question_of boot goal old) u → u.processor < 32 →
    known_of new u.processor ≡ joined u.reads (known_of old u.processor) → ((p : ℕ) → p < 32 → p ≢ u.processor → known_of new p ≡ known_of old p) →
    LearnsMore old new
learns_more boot goal old new u news below mine others =
    record { processor = u.processor; there = below; reads = u.reads; outside = news.outside; same = mine; others = others }
