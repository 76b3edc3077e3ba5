use Rattle.std.specs.Prelude.{◌≡◌, ◌≢◌, ◌⊎◌, ℕ, ◌+◌, ◌<◌, true, Option, None, Some}
use Rattle.m161_machine.specs.State.{State}
use Rattle.m161_judge.specs.Verdict.{Criteria}
use Rattle.m161_alike.specs.declared.known.Known.{Known}
use Rattle.m161_alike.specs.declared.reads.Reads.{Reads}
use Rattle.m161_alike.specs.View.{joined, known_of}
use Rattle.m161_explore.specs.declared.unfinished.Unfinished.{Unfinished}
use Rattle.m161_explore.specs.declared.whole.Answer.{Answer}
use Rattle.m161_explore.specs.Answers.{Answers}
use Rattle.m161_explore.specs.Unfinished.{IsAtStart, IsUnfinished}
use Rattle.m161_states.specs.declared.verdict.Unknown.{Unknown}
use Rattle.m161_states.specs.declared.verdict.EventVerdict.{EventVerdict}
use Rattle.m161_states.specs.Verdicts.{is_outside}
use Rattle.m161_reach.specs.Hand.{InHand, IsReady}
use Rattle.m161_reach.specs.Reach.{HasEnded, IsLearnt, IsMet, question_of, rules_of}

-- The exploration of a machine in parts.

-- what is known of time, and the states that were found by it
pub record Exploring : Type 0 where
  pub known : Known
  pub unfinished : Unfinished InHand

-- it is one of this machine and question, and nothing is known of time that no Step reads
pub record IsExploring (boot : State) (goal : Criteria) (limit : ℕ) (e : Exploring) : Type 0 where
  pub unfinished : IsUnfinished (rules_of (question_of boot goal e.known)) (IsMet (question_of boot goal e.known))
      (IsReady (question_of boot goal e.known)) limit e.unfinished
  pub learnt : IsLearnt (question_of boot goal e.known)

-- what wasn't known of a processor's time is known now, and of the others' as much as before
pub record LearnsMore (old new : Known) : Type 0 where
  pub processor : ℕ
  pub there : processor < 32
  pub reads : Reads
  pub outside : is_outside reads (known_of old processor) ≡ true
  pub same : known_of new processor ≡ joined reads (known_of old processor)
  pub others : (p : ℕ) → p < 32 → p ≢ processor → known_of new p ≡ known_of old p

-- there is an answer; or there is none yet, and the events of so many states more were tried, or more is
-- known of time, and the states are looked for anew, from the first one on
abbrev pub GoesOnExploring : State → Criteria → ℕ → ℕ → Exploring → Exploring → Option (Answer EventVerdict Unknown) → Type 0
GoesOnExploring boot goal limit number before after (Some answer) =
    Answers (rules_of (question_of boot goal after.known)) limit answer × (HasEnded answer → ⊥)
    × IsLearnt (question_of boot goal after.known)
GoesOnExploring boot goal limit number before after None =
    IsExploring boot goal limit after
    × (((after.known ≡ before.known) × (after.unfinished.tried ≡ before.unfinished.tried + number))
    ⊎ (LearnsMore before.known after.known × IsAtStart after.unfinished))
