use Rattle.std.specs.Prelude.{◌≡◌, ◌⊎◌, ℕ, ◌<◌, Bool, if◌then◌else◌, List, [], length, map, Option, None, Some}
use Rattle.m161_alike.specs.declared.known.Known.{Known}
use Rattle.m161_audit.specs.declared.watch.Watch.{Watch}
use Rattle.m161_audit.specs.Watch.{AreGood, IsBad}
use Rattle.m161_explore.specs.declared.whole.Answer.{Answer}
use Rattle.m161_explore.specs.declared.whole.Answer.TheVariants.{Clean, Found, Hung, Open, Ended}
use Rattle.m161_explore.specs.Answers.{Answers}
use Rattle.m161_judge.specs.Verdict.{Criteria}
use Rattle.m161_machine.specs.State.{State}
use Rattle.m161_reach.specs.Reach.{CanBeAsked, IsLearnt, question_of, rules_of}
use Rattle.m161_states.specs.declared.verdict.Unknown.{Unknown}
use Rattle.m161_states.specs.declared.verdict.EventVerdict.{EventVerdict}
use Rattle.m161_c.specs.declared.answer.Exploration.{Exploration}
use Rattle.m161_c.specs.declared.answer.WatchNumbers.{WatchNumbers}
use Rattle.m161_c.specs.Verdicts.{as_run, no_verdict, run_verdict}

-- The exploration of all states of a machine.

abbrev pub watch_of : WatchNumbers → Watch
watch_of numbers =
    record { id = numbers.id; page = numbers.page; pte = numbers.pte; done = numbers.done }

-- the output that is asked for, if any is
abbrev pub output_in : Bool → List ℕ → Option (List ℕ)
output_in asked output = if asked then Some output else None

-- by what events are judged
abbrev pub criteria_of : List ℕ → List WatchNumbers → List ℕ → Option (List ℕ) → Criteria
criteria_of keys watches never output =
    record { watches = map watch_of watches; never = never; output = output; keys = keys }

-- an answer as numbers, with the numbers of the events of its list, if it has one
abbrev pub Tells : Answer EventVerdict Unknown → Exploration → List ℕ → Type 0
Tells (Clean states) found events =
    (found ≡ record { kind = 0; states = states; events = 0; verdict = no_verdict })
    × (events ≡ [])
Tells (Found list what states) found events =
    (found
    ≡ record { kind = 1; states = states; events = length list.items; verdict = run_verdict (as_run what) })
    × (events ≡ list.items)
Tells (Hung list states) found events =
    (found ≡ record { kind = 2; states = states; events = length list.items; verdict = no_verdict })
    × (events ≡ list.items)
Tells (Open size) found events =
    (found ≡ record { kind = 3; states = 0; events = size; verdict = no_verdict }) × (events ≡ [])
Tells (Ended reason) found events = ⊥

-- the watches: no one is bad; a first one is bad

abbrev pub AreAllGood : State → Criteria → Type 0
AreAllGood boot goal = (k : ℕ) → AreGood boot.conf.ram goal.watches k

abbrev pub IsOneBad : State → Criteria → Type 0
IsOneBad boot goal = (k : ℕ) × IsBad boot.conf.ram goal.watches k × AreGood boot.conf.ram goal.watches k

-- from this state at boot, with so much of time being known as Steps read, the answer says what it says of all lists of
-- events; the session's bytes are the events
pub record IsExplored (boot : State) (limit : ℕ) (goal : Criteria) (found : Exploration) (events : List ℕ) : Type 0 where
  pub some : 0 < limit
  pub good : AreAllGood boot goal
  pub asked : CanBeAsked boot goal
  pub known : Known
  pub learnt : IsLearnt (question_of boot goal known)
  pub answer : Answer EventVerdict Unknown
  pub answers : Answers (rules_of (question_of boot goal known)) limit answer
  pub tells : Tells answer found events

-- Why there is no exploration. What is asked is looked at in this order, and the first that isn't right is answered: the
-- limit; the watches; whether it fits its words.

-- of some states; memory may be refused instead, before any of these is known
abbrev pub IsRefused : State → Criteria → ℕ → Type 0
IsRefused boot goal answer =
    IsOneBad boot goal × (answer ≡ 22)
    ⊎ AreAllGood boot goal × (CanBeAsked boot goal → ⊥) × (answer ≡ 253)
    ⊎ (answer ≡ 254)

abbrev pub IsUnexplored : State → ℕ → Criteria → ℕ → Type 0
IsUnexplored boot limit goal answer =
    (limit ≡ 0) × (answer ≡ 253) ⊎ (0 < limit) × IsRefused boot goal answer
