use Rattle.std.specs.Prelude.{◌≡◌, ◌⊎◌, ℕ, ◌+◌, ◌<◌, ◌%◌, ◌^◌, ◌==◌, ◌&&◌, if◌then◌else◌, Bool, false, List, Option, None, Some}
use Rattle.m161_machine.specs.declared.event.Entry.{Entry}
use Rattle.m161_machine.specs.declared.event.Refusal.TheVariants as refusals
use Rattle.m161_machine.specs.History.{History}
use Rattle.m161_machine.specs.State.{State, word_in}
use Rattle.m161_order.specs.declared.order.Order.{Order}
use Rattle.m161_order.specs.declared.order.OrderError.{OrderError}
use Rattle.m161_order.specs.Order.{order_fault}
use Rattle.m161_drive.specs.declared.run.Driven.{Driven}
use Rattle.m161_drive.specs.declared.run.Stop.{Stop}
use Rattle.m161_drive.specs.declared.run.Stop.TheVariants.{Off, End, Stuck, Refused}
use Rattle.m161_drive.specs.Drive.{Drives}
use Rattle.m161_drive.specs.Policy.{Rules}
use Rattle.m161_c.specs.declared.answer.Goal.{Goal}
use Rattle.m161_c.specs.declared.answer.OrderNumbers.{OrderNumbers}
use Rattle.m161_c.specs.Driven.{number_of_order, order_in, rules_in}

-- A search for a run that ends wrong.

-- the same numbers with the seed so many places on, modulo 2^64
abbrev pub order_at : OrderNumbers → ℕ → OrderNumbers
order_at numbers k = record numbers { seed = (numbers.seed + k) % 2 ^ 64 }

abbrev pub is_word : Option ℕ → ℕ → Bool
is_word None word = false
is_word (Some it) word = it == word

-- the machine is off, and has the word that is asked for
abbrev pub is_right : Goal → State → Bool
is_right goal s = s.board.off && is_word (word_in s.memory goal.address) goal.word

-- a run doesn't stop by want of memory
abbrev pub HasMemory : Stop → Type 0
HasMemory Off = Unit {0}
HasMemory End = Unit {0}
HasMemory Stuck = Unit {0}
HasMemory (Refused refusals.NoMemory) = ⊥
HasMemory (Refused other) = Unit {0}

-- a driven run of at most n events from one state ends in another
abbrev pub EndsIn : Rules → ℕ → State → State → Type 0
EndsIn rules n s t =
    (driven : Driven) × (entries : List Entry) × Drives rules n s driven entries t
    × HasMemory driven.stop

-- a run is tried: None where it ends right, Some 0 where it ends wrong, and else why it isn't made
abbrev pub TriesBy : Option OrderError → Rules → ℕ → Goal → Option ℕ → State → Type 0
TriesBy (Some fault) rules n goal answer s = answer ≡ Some (number_of_order fault)
TriesBy None rules n goal answer s =
    (answer ≡ Some 254)
    ⊎ ((t : State) × EndsIn rules n s t × (answer ≡ (if is_right goal t then None else Some 0)))

abbrev pub TriesIn : Option Order → OrderNumbers → List ℕ → ℕ → Goal → Option ℕ → State → Type 0
TriesIn None numbers keys n goal answer s = answer ≡ Some 253
TriesIn (Some order) numbers keys n goal answer s =
    TriesBy (order_fault order) (rules_in numbers order keys) n goal answer s

abbrev pub TriesAs : OrderNumbers → List ℕ → ℕ → Goal → Option ℕ → State → Type 0
TriesAs numbers keys n goal answer s = TriesIn (order_in numbers) numbers keys n goal answer s

-- the runs of so many seeds from a state are tried in order: the first of them end right; the next
-- one doesn't, or there is none
abbrev pub SearchesAs : OrderNumbers → List ℕ → ℕ → ℕ → Goal → ℕ → ℕ → State → Type 0
SearchesAs numbers keys n count goal right answer s =
    ((j : ℕ) → j < right → TriesAs (order_at numbers j) keys n goal None s)
    × ((right ≡ count) × (answer ≡ 21)
    ⊎ (right < count) × TriesAs (order_at numbers right) keys n goal (Some answer) s)

abbrev pub SearchesOf : Option History → OrderNumbers → List ℕ → ℕ → ℕ → Goal → ℕ → ℕ → Type 0
SearchesOf None numbers keys n count goal right answer = (answer ≡ 255) × (right ≡ 0)
SearchesOf (Some m) numbers keys n count goal right answer =
    SearchesAs numbers keys n count goal right answer m.state
