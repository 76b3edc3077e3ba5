use Rattle.std.specs.Prelude.{◌≡◌, ℕ, false, List, [], ◌++◌, option_to_list, Result, Ok, Err}
use Rattle.m161_cpu.specs.declared.processor.Outcome.{Outcome}
use Rattle.m161_machine.specs.declared.event.Event.{Event}
use Rattle.m161_machine.specs.declared.event.Event.TheVariants.{Step, Key, Done}
use Rattle.m161_machine.specs.declared.event.Refusal.{Refusal}
use Rattle.m161_machine.specs.State.{State, is_worn, next}
use Rattle.m161_machine.specs.Resting.{rests, ticks}
use Rattle.m161_machine.specs.Uses.{uses_in}
use Rattle.m161_machine.specs.Fetched.{fetched}
use Rattle.m161_alike.specs.declared.known.Known.{Known}
use Rattle.m161_alike.specs.Reads.{AreWithin, reads_in}
use Rattle.m161_alike.specs.View.{AreAlike, known_of}

-- The law of states that are alike.

-- an event reads nothing that isn't known
abbrev pub ReadsWithin : Known → Event → State → Type 0
ReadsWithin known (Step p) s = AreWithin (reads_in p s) (known_of known p)
ReadsWithin known (Key byte) s = Unit {0}
ReadsWithin known Done s = Unit {0}

-- both are refused for one reason; or both are accepted with one outcome, and lead to states that
-- are alike
abbrev pub AnswersAlike :
    Known → Result (Outcome × State) Refusal → Result (Outcome × State) Refusal → Type 0
AnswersAlike known (Ok a) (Ok b) = (a.0 ≡ b.0) × AreAlike known a.1 b.1
AnswersAlike known (Err r) (Err q) = r ≡ q
AnswersAlike known (Ok a) (Err q) = ⊥
AnswersAlike known (Err r) (Ok b) = ⊥

-- what an event uses: a Step gets physical addresses through the same rows, stores into the same
-- word, and fetches the same word
abbrev pub UsesAlike : Event → State → State → Type 0
UsesAlike (Step p) s t =
    (uses_in p s ≡ uses_in p t) × ((o : Outcome) → fetched p s o ≡ fetched p t o)
UsesAlike (Key byte) s t = Unit {0}
UsesAlike Done s t = Unit {0}

-- the bytes that the console sends by an event
abbrev pub sent_by : Event → State → List ℕ
sent_by (Step p) s = []
sent_by (Key byte) s = []
sent_by Done s = option_to_list s.board.console.latch

-- what holds behind an event of two states
pub record BehaveAlike (known : Known) (e : Event) (s t : State) : Type 0 where
  pub answers : AnswersAlike known (next s e) (next t e)
  pub uses : UsesAlike e s t
  pub sent : sent_by e s ≡ sent_by e t

-- what is known of two states before any event
pub record LookAlike (p : ℕ) (s t : State) : Type 0 where
  pub reads : reads_in p s ≡ reads_in p t
  pub rests : rests p s ≡ rests p t
  pub ticks : ticks p s ≡ ticks p t

-- the law: states that are alike look alike; and they behave alike behind an event that reads
-- nothing that isn't known, unless one of them has accepted all events that a machine counts
abbrev pub AlikeLaw : Type 0
AlikeLaw =
    (known : Known) (s t : State) → AreAlike known s t
    → ((p : ℕ) → LookAlike p s t)
    × ((e : Event) → ReadsWithin known e s → is_worn s.made ≡ false → is_worn t.made ≡ false
    → BehaveAlike known e s t)

-- the law of the output: an event appends what it sends, and nothing else
abbrev pub SentLaw : Type 0
SentLaw =
    (e : Event) (s t : State) (o : Outcome) → next s e ≡ Ok (o, t)
    → t.board.console.output ≡ s.board.console.output ++ sent_by e s
