use Rattle.std.specs.Prelude.{◌≡◌, ◌⊎◌, ℕ, ◌<◌, Bool, true, false, List, [], Option, None, Some, option_map}
use Rattle.m161_judge.specs.declared.run.JudgedRun.{JudgedRun}
use Rattle.m161_judge.specs.declared.verdict.Judged.{Judged}
use Rattle.m161_judge.specs.declared.verdict.Verdict.{Verdict}
use Rattle.m161_judge.specs.declared.verdict.Verdict.TheVariants.{End}
use Rattle.m161_judge.specs.Verdict.{Criteria, Holds, IsJudged, rank}
use Rattle.m161_machine.specs.declared.event.Event.{Event}
use Rattle.m161_machine.specs.State.{State}
use Rattle.m161_states.specs.Question.{Question}
use Rattle.m161_reach.specs.declared.told.SearchVerdict.{SearchVerdict}
use Rattle.m161_reach.specs.declared.told.SearchVerdict.TheVariants.{Run, Hung}
use Rattle.m161_reach.specs.declared.told.Told.{Told}
use Rattle.m161_reach.specs.From.{asked_of, no_time, with_known}
use Rattle.m161_reach.specs.Hangs.{HangFirst, NeverHang}
use Rattle.m161_reach.specs.Reach.{CanBeAsked}

-- The verdict of a search: that of a list of events, or that it hangs, which comes before `end`.

-- by what the states behind a list are looked at: whether they lead to an end, and nothing else
abbrev pub ends_of : Criteria → Criteria
ends_of goal = record goal { watches = []; never = [] }

-- none of the verdicts that come before `hung` holds
abbrev pub NoneBefore : Criteria → State → List Event → Type 0
NoneBefore goal s events =
    (v : Verdict) (n : ℕ) → rank v < rank End → Holds goal s events v n → ⊥

-- these events hang, the first n of them the least, where few views behind them are to be looked at
abbrev pub Hang : ℕ → Criteria → State → List Event → ℕ → Type 0
Hang few goal s events n =
    (0 < few) × NoneBefore goal s events × HangFirst (asked_of s (ends_of goal)) few events n

-- no view behind them is to be looked at, or they don't hang
abbrev pub HangNot : ℕ → Criteria → State → List Event → Type 0
HangNot few goal s events = (few ≡ 0) ⊎ NeverHang (asked_of s (ends_of goal)) few events

-- the verdict of events from s, which needs the first n; `end` only where they don't hang
abbrev pub Tells : ℕ → Criteria → State → List Event → SearchVerdict → ℕ → Type 0
Tells few goal s events (Run v) n =
    IsJudged goal s events (Some (record { verdict = v; events = n }))
    × ((rank v < rank End) ⊎ HangNot few goal s events)
Tells few goal s events Hung n = Hang few goal s events n

-- or none
abbrev pub IsTold : ℕ → Criteria → State → List Event → Option Told → Type 0
IsTold few goal s events None = IsJudged goal s events None × HangNot few goal s events
IsTold few goal s events (Some told) = Tells few goal s events told.verdict told.events

-- that of a run, which is cut or isn't. One that isn't cut is over: the machine is off or stuck, so it doesn't hang
abbrev pub told_of : Judged → Told
told_of judged = record { verdict = Run judged.verdict; events = judged.events }

abbrev pub IsRunTold : Bool → ℕ → Criteria → State → List Event → Option Told → Type 0
IsRunTold true few goal s events told = IsTold few goal s events told
IsRunTold false few goal s events told =
    (judged : Option Judged) × IsJudged goal s events judged × (told ≡ option_map told_of judged)

-- this question is asked of the states behind events from s, a state at boot, whatever is known of time: whether
-- they lead to an end
pub record AsksEnds (goal : Criteria) (s : State) (q : Question) : Type 0 where
  pub can : CanBeAsked s (ends_of goal)
  pub asks : with_known no_time q ≡ asked_of s (ends_of goal)

-- of events with this verdict their verdict in a search is told, by whatever they are judged from each state
-- behind which that is asked
abbrev pub TellsOf : ℕ → Question → List Event → Option Judged → Option Told → Type 0
TellsOf few q events judged told =
    (goal : Criteria) (s : State) → AsksEnds goal s q → IsJudged goal s events judged
    → IsTold few goal s events told

-- the same of a run
abbrev pub TellsRun : ℕ → Question → JudgedRun → Option Told → Type 0
TellsRun few q run told =
    (goal : Criteria) (s : State) → AsksEnds goal s q → IsJudged goal s run.events.items run.judged
    → IsRunTold run.is_cut few goal s run.events.items told
