use Rattle.std.specs.Prelude.{◌≡◌, ◌⊎◌, ℕ, zero, suc, ◌+◌, ◌-◌, ◌<◌, ◌≤◌, true, nat_lt, if◌then◌else◌, List, [], ◌∷◌, length, take, Option, None, Some, Result, Ok, Err}
use Rattle.m161_machine.specs.declared.event.Entry.{Entry}
use Rattle.m161_machine.specs.declared.event.Event.{Event}
use Rattle.m161_machine.specs.State.{State, next}
use Rattle.m161_machine.specs.History.{Refuses}
use Rattle.m161_machine.specs.Stretch.{planned}
use Rattle.m161_order.specs.Delays.{behind}
use Rattle.m161_drive.specs.declared.cursor.Cursor.{Cursor}
use Rattle.m161_drive.specs.declared.run.Stop.{Stop}
use Rattle.m161_drive.specs.declared.run.Stop.TheVariants.{Off, End, Stuck, Refused}
use Rattle.m161_drive.specs.declared.orders.OrderState.{OrderState}
use Rattle.m161_drive.specs.declared.orders.OrderState.TheVariants.{InTurns, ByDelays, AtRandom, ByPriority}
use Rattle.m161_drive.specs.declared.turns.Turns.{Turns}
use Rattle.m161_drive.specs.Choice.{filled_after, since_filled, taken}
use Rattle.m161_drive.specs.Orders.{by_order}
use Rattle.m161_drive.specs.Policy.{Rules}
use Rattle.m161_drive.specs.Ready.{is_ready, is_sending}
use Rattle.m161_drive.specs.Words.{after_word}

-- The next event of a driven run.

-- the refusal of a chosen event
abbrev pub IsRefused : Event → State → Stop → Type 0
IsRefused e s Off = ⊥
IsRefused e s End = ⊥
IsRefused e s Stuck = ⊥
IsRefused e s (Refused refusal) = Refuses (next s e) e refusal

-- a chosen event is made, and has its entry in the first place; or it is refused
abbrev pub MakesChosen : Event → Cursor → State → List Entry → Result ℕ Stop → Cursor → State → Type 0
MakesChosen e c s places (Ok n) d t =
    (n ≡ 1) × ((entry : Entry) × (take 1 places ≡ entry ∷ []) × (entry.event ≡ e)
    × (next s e ≡ Ok (entry.outcome, t)) × (d ≡ taken e t c))
MakesChosen e c s places (Err stop) d t = IsRefused e s stop × (t ≡ s)

-- Steps one after the other.

-- a turn behind the next Step by turns, where the processor of the last one is ready
abbrev pub next_in_turn : Turns → Turns
next_in_turn t = record t { made = if nat_lt t.made t.steps then t.made + 1 else 1 }

-- an order behind its next choice, where the processor of the last one is ready and no delay comes; by
-- priorities none is made before its time
abbrev pub next_order : OrderState → OrderState
next_order (InTurns t) = InTurns (next_in_turn t)
next_order (ByDelays d) = ByDelays (record { turns = next_in_turn d.turns; left = behind 1 d.left })
next_order (AtRandom g) = AtRandom (after_word g)
next_order (ByPriority r) = ByPriority r

-- and behind n more
abbrev pub gone_on : ℕ → OrderState → OrderState
gone_on zero o = o
gone_on (suc n) o = gone_on n (next_order o)

-- an order that can go on in this way
abbrev pub MayGoOn : OrderState → Type 0
MayGoOn (InTurns t) = (1 ≤ t.made) × (t.made ≤ t.steps)
MayGoOn (ByDelays d) = (1 ≤ d.turns.made) × (d.turns.made ≤ d.turns.steps)
MayGoOn (AtRandom g) = Unit {0}
MayGoOn (ByPriority r) = Unit {0}

-- and by n choices
abbrev pub MayGoOnBy : ℕ → OrderState → Type 0
MayGoOnBy n o = (n ≡ 0) ⊎ MayGoOn o

-- behind a Step of the last processor, these places name the Steps that an order chooses one after
-- the other, as long as the same processors are ready as in a state; the last of them is of q
abbrev pub Plans : OrderState → ℕ → State → List Entry → ℕ → Type 0
Plans o last s [] q = q ≡ last
Plans o last s (e ∷ es) q =
    (p : ℕ) × (e ≡ planned p) × (by_order o (Some last) s ≡ (Some p, next_order o))
    × Plans (next_order o) p s es q

-- Steps behind one of processor p may be planned: it is ready, and a planned entry can name it
abbrev pub MayPlanBehind : ℕ → State → Type 0
MayPlanBehind p s = (is_ready s p ≡ true) × (p < 32)

-- behind a Step of processor p, the first n of these places now name Steps that an order chooses in
-- this way
pub record PlansBehind
    (o : OrderState) (p : ℕ) (s : State) (places : List Entry) (n : ℕ) (new : List Entry)
    : Type 0 where
  pub end : ℕ
  pub plans : Plans o p s (take n new) end
  pub may_go : MayGoOnBy n o
  pub within : n ≤ length places
  pub size : length new ≡ length places

-- the first n places plan a Step of processor p, which was just chosen, and those that follow it
pub record IsPlan (o : OrderState) (p : ℕ) (s : State) (n : ℕ) (places : List Entry) : Type 0 where
  pub rest : List Entry
  pub end : ℕ
  pub places_are : take n places ≡ planned p ∷ rest
  pub plans : Plans o p s rest end
  pub goes_on : (rest ≡ []) ⊎ (is_ready s p ≡ true) × MayGoOn o

-- no byte is sent between so many Steps
abbrev pub AreUnsent : Rules → Cursor → State → ℕ → Type 0
AreUnsent rules c s n =
    ((made : ℕ) → filled_after s.board.console.latch c.filled made ≡ c.filled)
    × (is_sending s ≡ true → since_filled c.filled s + n ≤ rules.transfer)

-- no key is typed between them, where this is the next one
abbrev pub IsUntyped : Option ℕ → Option ℕ → Cursor → State → ℕ → Type 0
IsUntyped None gap c s n = Unit {0}
IsUntyped (Some key) None c s n = Unit {0}
IsUntyped (Some key) (Some gap) c s n =
    (256 ≤ length s.board.console.waiting) ⊎ ((s.made - c.keyed) + n ≤ gap)

-- behind the choice of a Step in a state: of so many events, this one the first of them, each is a
-- Step, as long as the board stays as it is and some processor is ready
abbrev pub LeavesRoom : Rules → Option ℕ → Cursor → State → ℕ → Type 0
LeavesRoom rules key c s n = AreUnsent rules c s n × IsUntyped key rules.gap c s n

-- the cursor once n chosen Steps more were accepted, the last of them of processor q, and led to this
-- state
abbrev pub with_more_steps : ℕ → ℕ → State → Cursor → Cursor
with_more_steps n q s c = record c {
  order = gone_on n c.order;
  last = Some q;
  filled = filled_after s.board.console.latch c.filled s.made;
}
