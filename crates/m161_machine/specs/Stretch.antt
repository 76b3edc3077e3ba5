use Rattle.std.specs.Prelude.{◌≡◌, ◌≢◌, ℕ, ◌<◌, false, List, [], ◌∷◌, ◌++◌, All, length, replicate, Ok}
use Rattle.m161_cpu.specs.declared.processor.Outcome.TheVariants.{Ran}
use Rattle.m161_machine.specs.declared.event.Entry.{Entry}
use Rattle.m161_machine.specs.declared.event.Event.TheVariants.{Step}
use Rattle.m161_machine.specs.Resting.{rests}
use Rattle.m161_machine.specs.History.{Leads, entry, events_of}
use Rattle.m161_machine.specs.State.{State, next, processor_at}

-- Steps in a row.

-- Steps of processor p, with these entries, lead from one state to another
abbrev pub Advances : ℕ → State → List Entry → State → Type 0
Advances p s entries t =
    Leads s entries t × (events_of entries ≡ replicate (length entries) (Step p))

-- a Step of processor p that is to be made: its place has the outcome of most Steps until then
abbrev pub planned : ℕ → Entry
planned p = entry (Step p) Ran

-- each of these places names a Step of one of n processors
abbrev pub ArePlanned : ℕ → List Entry → Type 0
ArePlanned n places = All (λ (e : Entry). (p : ℕ) × (p < n) × (e ≡ planned p)) places

-- a Step of processor p from s to t is quiet: the board and the other processors are as they were
pub record IsQuiet (p : ℕ) (s t : State) : Type 0 where
  pub board_is : t.board ≡ s.board
  pub number_is : length t.processors ≡ length s.processors
  pub others_are : (q : ℕ) → q ≢ p → processor_at q t.processors ≡ processor_at q s.processors

-- and it is plain where p doesn't rest then. So whoever chooses the next event by the board and by
-- which processors rest finds what was there before
abbrev pub IsPlain : ℕ → State → State → Type 0
IsPlain p s t = IsQuiet p s t × (rests p t ≡ false)

-- from s, Steps with these entries lead to t, and each of them is plain
abbrev pub ArePlain : State → List Entry → State → Type 0
ArePlain s [] t = t ≡ s
ArePlain s (e ∷ es) t =
    (p : ℕ) × (u : State) × (e.event ≡ Step p) × (next s (Step p) ≡ Ok (e.outcome, u)) × IsPlain p s u
    × ArePlain u es t

-- from s, Steps with these entries lead to t: there is at least one, and each but the last is plain
pub record IsStretch (s : State) (entries : List Entry) (t : State) : Type 0 where
  pub before : List Entry
  pub between : State
  pub are_plain : ArePlain s before between
  pub last : Entry
  pub processor : ℕ
  pub is_step : last.event ≡ Step processor
  pub leads : next between (Step processor) ≡ Ok (last.outcome, t)
  pub entries_are : entries ≡ before ++ last ∷ []
