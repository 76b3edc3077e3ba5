use Rattle.std.specs.Prelude.{ℕ, Bool, false, nat_le, List, [], ◌∷◌, unwrap_or}
use Rattle.m161_explore.specs.declared.whole.Answer.{Answer}
use Rattle.m161_explore.specs.declared.whole.Answer.TheVariants.{Clean, Found, Hung, Open, Ended}
use Rattle.m161_states.specs.declared.verdict.Unknown.{Unknown}
use Rattle.m161_states.specs.Question.{Question}
use Rattle.m161_states.specs.System.{Explored, next, start}
use Rattle.m161_reach.specs.helpers.Advance.{unmade}

-- What an exploration goes on from.

-- the state behind events; one that isn't accepted is left out
abbrev pub behind_all : Question → Explored → List ℕ → Explored
behind_all q x [] = x
behind_all q x (n ∷ ns) = behind_all q (unwrap_or (next q x n) x) ns

-- so that each origin is a state that is met, it is told by the events that lead to it
pub record Origin : Type 0 where
  pub question : Question
  pub events : List ℕ

-- as before any event
abbrev pub origin_of : Question → List ℕ → Explored
origin_of q events = unmade (behind_all q (start q) events)

-- an exploration for ends says that a state hangs
abbrev pub says_hung : ℕ → Answer (Unit {0}) Unknown → Bool
says_hung limit (Clean states) = nat_le states limit
says_hung limit (Found events what states) = false
says_hung limit (Hung events states) = nat_le states limit
says_hung limit (Open size) = false
says_hung limit (Ended reason) = false
