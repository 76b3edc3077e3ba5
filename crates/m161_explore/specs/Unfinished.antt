use Rattle.std.specs.Prelude.{◌≡◌, ℕ, ◌+◌, ◌<◌, ◌≤◌, Option, None, Some, length}
use Rattle.m161_explore.specs.declared.unfinished.Unfinished.{Unfinished}
use Rattle.m161_explore.specs.declared.whole.Answer.{Answer}
use Rattle.m161_explore.specs.Answers.{Answers}
use Rattle.m161_explore.specs.Rules.{Rules}
use Rattle.m161_explore.specs.Search.{IsBefore}

-- An exploration in parts.

-- all events of the states that were tried are known, other states are left to try, and no more were found
-- than may be
pub record IsUnfinished {S V R St : Type 0} (r : Rules S V R) (is_valid : S → Type 0) (is_ready : St → Type 0) (limit : ℕ) (u : Unfinished St) : Type 0 where
  pub ready : is_ready u.state
  pub before : IsBefore r is_valid u.graph.keys u.graph.nodes.items u.graph.links.items u.tried
  pub left : u.tried < length u.graph.keys
  pub few : length u.graph.keys ≤ limit

-- the first state was found, and its events weren't tried
abbrev pub IsAtStart : {St : Type 0} → Unfinished St → Type 0
IsAtStart u = (length u.graph.keys ≡ 1) × (u.tried ≡ 0)

-- there is an answer; or there is none yet, and the events of so many states more were tried
abbrev pub GoesOn : {S V R St : Type 0} → Rules S V R → (S → Type 0) → (St → Type 0) → ℕ → ℕ → Unfinished St → Unfinished St → Option (Answer V R) → Type 0
GoesOn r is_valid is_ready limit number before after (Some answer) = Answers r limit answer
GoesOn r is_valid is_ready limit number before after None =
    IsUnfinished r is_valid is_ready limit after × (after.tried ≡ before.tried + number)
