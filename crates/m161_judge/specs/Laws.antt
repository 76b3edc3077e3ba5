use Rattle.std.specs.Prelude.{◌≡◌, ◌↔◌, ℕ, ◌<◌, ◌≤◌, true, false, nat_lt, List, length, take, Option, None, Some}
use Rattle.m161_machine.specs.declared.event.Event.{Event}
use Rattle.m161_machine.specs.State.{State}
use Rattle.m161_drive.specs.declared.cursor.Cursor.{Cursor}
use Rattle.m161_drive.specs.Choice.{chosen}
use Rattle.m161_drive.specs.Policy.{Rules}
use Rattle.m161_judge.specs.declared.verdict.Judged.{Judged}
use Rattle.m161_judge.specs.declared.verdict.Verdict.{Verdict}
use Rattle.m161_judge.specs.declared.verdict.Verdict.TheVariants.{End}
use Rattle.m161_judge.specs.Verdict.{Criteria, Holds, IsJudged, is_stuck, rank}

-- Laws of the verdict.

-- no policy with these keys, of which so many are typed, chooses an event, wherever its cursor is
abbrev pub NoPolicyChooses : List ℕ → ℕ → State → Type 0
NoPolicyChooses keys typed s =
    (rules : Rules) (c : Cursor) → rules.keys ≡ keys → c.typed ≡ typed → (chosen rules c s).0 ≡ None

-- in a state that isn't off, that is so exactly where it is stuck
abbrev pub StuckIsNoChoice : List ℕ → ℕ → State → Type 0
StuckIsNoChoice keys typed s =
    s.board.off ≡ false
    → (is_stuck (nat_lt typed (length keys)) s ≡ true) ↔ NoPolicyChooses keys typed s

-- a run has one verdict
abbrev pub IsOneVerdict : Criteria → State → List Event → Type 0
IsOneVerdict goal s events =
    (a b : Option Judged) → IsJudged goal s events a → IsJudged goal s events b → a ≡ b

-- a run that is cut behind its verdict has the same one
abbrev pub CutKeepsVerdict : Criteria → State → List Event → Judged → Type 0
CutKeepsVerdict goal s events judged =
    IsJudged goal s events (Some judged)
    → IsJudged goal s (take judged.events events) (Some judged)

-- what holds of the first events of a run holds of all, unless it is that there are no more
abbrev pub FirstIsNoWorse : Criteria → State → List Event → Type 0
FirstIsNoWorse goal s events =
    (n : ℕ) (v : Verdict) (k : ℕ)
    → n ≤ length events → rank v < rank End → Holds goal s (take n events) v k
    → Holds goal s events v k
