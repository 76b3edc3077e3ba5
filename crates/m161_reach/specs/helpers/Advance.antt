use Rattle.std.specs.Prelude.{◌≡◌, ◌⊎◌, Option, None, Some, Ok, Err}
use Rattle.m161_cpu.specs.declared.processor.Outcome.{Outcome}
use Rattle.m161_machine.specs.declared.event.Event.{Event}
use Rattle.m161_machine.specs.declared.event.Refusal.{Refusal}
use Rattle.m161_machine.specs.State.{State, next as result_of}
use Rattle.m161_judge.specs.Verdict.{Criteria}
use Rattle.m161_alike.specs.declared.known.Known.{Known}
use Rattle.m161_states.specs.declared.verdict.Unknown.{Unknown}
use Rattle.m161_states.specs.declared.verdict.EventVerdict.{EventVerdict}
use Rattle.m161_states.specs.Question.{Question, least}
use Rattle.m161_states.specs.System.{Explored, behind, fresh, next_by}
use Rattle.m161_states.specs.Verdicts.{stop_by, verdict_by}
use Rattle.m161_explore.specs.declared.system.Advanced.{Advanced}
use Rattle.m161_explore.specs.declared.system.Advanced.TheVariants.{Refused, Passed, Judged, Stopped}

-- a state as before any event
abbrev pub unmade : Explored → Explored
unmade x = record x { state = fresh x.state }

-- an event of x, if it is this one, is accepted with an outcome, and t is the next state, as before any
-- event; or it isn't accepted, and t is x
abbrev pub Takes : Criteria → Explored → Event → Explored → Option Outcome → Type 0
Takes goal x e t (Some o) =
    (u : State) × (result_of (fresh x.state) e ≡ Ok (o, u)) × (t ≡ unmade (behind goal x e u))
Takes goal x e t None = (r : Refusal) × (result_of (fresh x.state) e ≡ Err r) × (t ≡ x)

abbrev pub TakesNext : Criteria → Explored → Option Event → Explored → Option Outcome → Type 0
TakesNext goal x None t made = (made ≡ None) × (t ≡ x)
TakesNext goal x (Some e) t made = Takes goal x e t made

-- a question of which this alone is known: an event asks no more of it
abbrev pub asked : Criteria → Known → Question
asked goal known = record { start = least; goal = goal; known = known }

-- what comes of an accepted event with this verdict
abbrev pub advanced_by : Option EventVerdict → Advanced EventVerdict Unknown
advanced_by None = Passed
advanced_by (Some what) = Judged what

-- what an event of x comes to, if it is this one; where it is accepted, t is the next state, as before
-- any event, else t is x
abbrev pub AdvancesBy :
    Question → Explored → Option Event → Explored → Advanced EventVerdict Unknown → Type 0
AdvancesBy q x e t Refused = (stop_by q x e ≡ None) × (next_by q.goal x e ≡ None) × (t ≡ x)
AdvancesBy q x e t Passed =
    (u : Explored) × (stop_by q x e ≡ None) × (next_by q.goal x e ≡ Some u)
    × (verdict_by q.goal x e ≡ None) × (t ≡ unmade u)
AdvancesBy q x e t (Judged what) =
    (u : Explored) × (stop_by q x e ≡ None) × (next_by q.goal x e ≡ Some u)
    × (verdict_by q.goal x e ≡ Some what) × (t ≡ unmade u)
AdvancesBy q x e t (Stopped reason) = (stop_by q x e ≡ Some reason) × (t ≡ x)

-- t is x, or the next state behind this event, as before any event
abbrev pub IsBehind : Criteria → Explored → Option Event → Explored → Type 0
IsBehind goal x e t =
    (t ≡ x) ⊎ ((u : Explored) × (next_by goal x e ≡ Some u) × (t ≡ unmade u))
