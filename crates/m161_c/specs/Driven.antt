use Rattle.std.specs.Prelude.{◌≡◌, ℕ, ◌==◌, if◌then◌else◌, Bool, List, [], ◌∷◌, ◌++◌, Option, None, Some, Ok}
use Rattle.m161_machine.specs.declared.event.Entry.{Entry}
use Rattle.m161_machine.specs.Refusal.{number_of_refusal}
use Rattle.m161_machine.specs.State.{State, next}
use Rattle.m161_machine.specs.History.{History, Slides}
use Rattle.m161_order.specs.declared.order.Order.{Order}
use Rattle.m161_order.specs.declared.order.Order.TheVariants.{Turns, Random, Priorities}
use Rattle.m161_order.specs.declared.order.OrderError.{OrderError}
use Rattle.m161_order.specs.declared.order.OrderError.TheVariants.{NoTurn, NoStretch, TooManyChanges}
use Rattle.m161_order.specs.Order.{order_fault}
use Rattle.m161_drive.specs.declared.run.Driven.{Driven}
use Rattle.m161_drive.specs.declared.run.Stop.{Stop}
use Rattle.m161_drive.specs.declared.run.Stop.TheVariants.{Off, End, Stuck, Refused}
use Rattle.m161_drive.specs.Drive.{Drives}
use Rattle.m161_drive.specs.Policy.{Rules}
use Rattle.m161_dis.specs.declared.naming.Style.{Style}
use Rattle.m161_text.specs.Lines.{with_line_end}
use Rattle.m161_trace.specs.Line.{event_line_with}
use Rattle.m161_c.specs.declared.answer.OrderNumbers.{OrderNumbers}

-- Driven runs of a machine, whose events its log keeps.

-- the order of these numbers, if their kind is one
abbrev pub order_in : OrderNumbers → Option Order
order_in numbers =
    if numbers.kind == 0 then Some (Turns numbers.turns)
    else if numbers.kind == 1 then Some (Random numbers.seed)
    else if numbers.kind == 2 then Some (Priorities numbers.seed numbers.changes numbers.within)
    else None

abbrev pub gap_in : OrderNumbers → Option ℕ
gap_in numbers = if numbers.gaps then Some numbers.gap else None

-- the policy of these numbers with this order
abbrev pub rules_in : OrderNumbers → Order → List ℕ → Rules
rules_in numbers order keys =
    record { order = order; transfer = numbers.transfer; gap = gap_in numbers; keys = keys }

-- the numbers of the reasons why a run has no more events

abbrev pub number_of_order : OrderError → ℕ
number_of_order NoTurn = 18
number_of_order NoStretch = 19
number_of_order TooManyChanges = 20

abbrev pub number_of_stop : Stop → ℕ
number_of_stop End = 0
number_of_stop Off = 16
number_of_stop Stuck = 17
number_of_stop (Refused refusal) = number_of_refusal refusal

-- a driven run from a machine's state on, whose entries are appended to its log
abbrev pub DrivesOn : Rules → ℕ → History → Driven → History → Type 0
DrivesOn rules n m driven k =
    (entries : List Entry) × Drives rules n m.state driven entries k.state × Slides m entries k

-- a run of at most n events by an order, of which so many were made, with this answer

abbrev pub DrivesBy : Option OrderError → Rules → ℕ → ℕ → ℕ → History → History → Type 0
DrivesBy (Some fault) rules n made answer m k =
    (answer ≡ number_of_order fault) × (made ≡ 0) × (k ≡ m)
DrivesBy None rules n made answer m k =
    (stop : Stop) × (answer ≡ number_of_stop stop)
    × DrivesOn rules n m (record { made = made; stop = stop }) k

abbrev pub DrivesIn : Option Order → OrderNumbers → List ℕ → ℕ → ℕ → ℕ → History → History → Type 0
DrivesIn None numbers keys n made answer m k = (answer ≡ 253) × (made ≡ 0) × (k ≡ m)
DrivesIn (Some order) numbers keys n made answer m k =
    DrivesBy (order_fault order) (rules_in numbers order keys) n made answer m k

abbrev pub DrivesAs : OrderNumbers → List ℕ → ℕ → ℕ → ℕ → History → History → Type 0
DrivesAs numbers keys n made answer m k = DrivesIn (order_in numbers) numbers keys n made answer m k

-- Traces.

-- from one state to another, these are the lines of the events of these entries, with what their Steps load or without
abbrev pub AreLines : Style → Bool → State → List Entry → List ℕ → State → Type 0
AreLines style loads s [] text t = (text ≡ []) × (t ≡ s)
AreLines style loads s (e ∷ es) text t =
    (u : State) × (rest : List ℕ) × (next s e.event ≡ Ok (e.outcome, u))
    × (text ≡ with_line_end (event_line_with style loads s.made e.event s e.outcome u) ++ rest)
    × AreLines style loads u es rest t

-- a driven run whose lines stand behind a text
abbrev pub TracesOn :
    Style → Bool → Rules → ℕ → History → Driven → History → List ℕ → List ℕ → Type 0
TracesOn style loads rules n m driven k before after =
    (entries : List Entry) × (lines : List ℕ)
    × Drives rules n m.state driven entries k.state × Slides m entries k
    × AreLines style loads m.state entries lines k.state × (after ≡ before ++ lines)
