use Rattle.std.specs.Prelude.{◌≡◌, ◌⊎◌, ℕ, ◌+◌, ◌<◌, Bool, true, false, if◌then◌else◌, List, Option, None, Some}
use Rattle.m161_machine.specs.State.{State}
use Rattle.m161_judge.specs.Verdict.{Criteria}
use Rattle.m161_alike.specs.declared.known.Known.{Known}
use Rattle.m161_alike.specs.declared.reads.Reads.{Reads}
use Rattle.m161_alike.specs.View.{known_of}
use Rattle.m161_states.specs.declared.verdict.Unknown.{Unknown}
use Rattle.m161_states.specs.Question.{Question, processors_of}
use Rattle.m161_states.specs.System.{Explored, next}
use Rattle.m161_states.specs.Verdicts.{is_end, reads_next, stop}
use Rattle.m161_states.specs.Views.{view}
use Rattle.m161_explore.specs.Answers.{IsAny}
use Rattle.m161_explore.specs.Lists.{CanEnd, HasStop, Leads}
use Rattle.m161_explore.specs.Rules.{Rules}
use Rattle.m161_explore.specs.Views.{HaveFewViews, HaveMoreViews}
use Rattle.m161_reach.specs.Reach.{question_of, rules_of}

-- Whether a state hangs: no events lead from it to an end, and few views are behind it.

-- with this known of time
abbrev pub with_known : Known → Question → Question
with_known known q = record q { known = known }

-- nothing is known of time
abbrev pub no_time : Known
no_time = record { random = 0; count = 0 }

-- what is asked, before anything is known of time
abbrev pub asked_of : State → Criteria → Question
asked_of boot goal = question_of boot goal no_time

-- a state behind an event that is an end
abbrev pub at_end : Question → Option Explored → Option (Unit {0})
at_end q None = None
at_end q (Some y) = if is_end q y then Some tt else None

-- the rules of the machine, from this state on; what an event is judged by is whether an end is behind it
unfoldable pub rules_from : Question → Explored → Rules Explored (Unit {0}) Unknown
rules_from q x = record {
  width = processors_of q + 2;
  start = x;
  next = λ y n. next q y n;
  verdict = λ y n. at_end q (next q y n);
  stop = λ y n. stop q y n;
  is_end = λ y. false;
  view = λ y. view q y;
}

-- behind some list of events from x on the next Step of a processor reads one of the two registers of
-- its time
abbrev pub ReadsFrom : Question → Explored → ℕ → (Reads → Bool) → Type 0
ReadsFrom q x p which =
    (events : List ℕ) × (y : Explored) × Leads (rules_of q) x events y
    × (which (reads_next p y.state) ≡ true)

-- nothing is known of time that no Step of a list from x on reads
pub record IsLearntFrom (q : Question) (x : Explored) : Type 0 where
  pub random : (p : ℕ) → p < 32 → (known_of q.known p).random ≡ true → ReadsFrom q x p (λ reads. reads.random)
  pub count : (p : ℕ) → p < 32 → (known_of q.known p).count ≡ true → ReadsFrom q x p (λ reads. reads.count)

-- no list of events leads from x to an end; and by the time that the Steps of these lists read, they
-- lead to no more different views than this
pub record IsHungFrom (q : Question) (limit : ℕ) (x : Explored) : Type 0 where
  pub no_end : CanEnd (rules_of q) x → ⊥
  pub known : Known
  pub learnt : IsLearntFrom (with_known known q) x
  pub all_known : (events : List ℕ) (u : Unknown) → HasStop (rules_from (with_known known q) x) events u → ⊥
  pub few : HaveFewViews (rules_from (with_known known q) x) IsAny limit

-- a list of events leads from x to an end; or, by time that Steps of such lists read, they lead to more
-- different views than this
abbrev pub IsFreeFrom : Question → ℕ → Explored → Type 0
IsFreeFrom q limit x =
    CanEnd (rules_of q) x
    ⊎ ((known : Known) × IsLearntFrom (with_known known q) x
    × HaveMoreViews (rules_from (with_known known q) x) IsAny limit)
