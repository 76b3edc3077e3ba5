use Rattle.std.specs.Prelude.{◌≡◌, ◌⊎◌, ℕ, ◌≤◌, Bool, true, false, List, length, Some}
use Rattle.m161_states.specs.declared.verdict.Unknown.{Unknown}
use Rattle.m161_states.specs.declared.verdict.EventVerdict.{EventVerdict}
use Rattle.m161_states.specs.Question.{Question}
use Rattle.m161_states.specs.System.{Explored, stored}
use Rattle.m161_explore.specs.declared.whole.Answer.{Answer}
use Rattle.m161_explore.specs.declared.whole.Answer.TheVariants.{Clean, Found, Hung, Open, Ended}
use Rattle.m161_explore.specs.Lists.{HasStop, IsFollowed}
use Rattle.m161_reach.specs.Reach.{rules_of}

-- Whether a Step of the lists of events that an exploration is of stores to a word of RAM.

-- the last event of a list is accepted, and is a Step that stores to this word
pub record StoresLast (q : Question) (word : ℕ) (events : List ℕ) : Type 0 where
  pub from : Explored
  pub last : ℕ
  pub followed : IsFollowed (rules_of q) events from last
  pub stores : stored q from last ≡ Some word

-- that of some list
abbrev pub SomeStores : Question → ℕ → Type 0
SomeStores q word = (events : List ℕ) × StoresLast q word events

-- that of none
abbrev pub NoneStores : Question → ℕ → Type 0
NoneStores q word = (events : List ℕ) → StoresLast q word events → ⊥

-- that of none of at most so many events
abbrev pub NoneStoresWithin : Question → ℕ → ℕ → Type 0
NoneStoresWithin q word size =
    (events : List ℕ) → length events ≤ size → StoresLast q word events → ⊥

-- the Step behind some list reads of time what isn't known
abbrev pub SomeStops : Question → Type 0
SomeStops q = (events : List ℕ) × (unknown : Unknown) × HasStop (rules_of q) events unknown

-- no Step stores to the word in the lists of which an answer is: in all lists, or in those of so many
-- events. Where a list has a verdict, that isn't said
abbrev pub IsUnstored : Question → ℕ → Answer EventVerdict Unknown → Type 0
IsUnstored q word (Clean states) = NoneStores q word
IsUnstored q word (Found events what states) = ⊥
IsUnstored q word (Hung events states) = NoneStores q word
IsUnstored q word (Open size) = NoneStoresWithin q word size
IsUnstored q word (Ended reason) = ⊥

-- it isn't said: some Step stores to it; of an open answer, which is of those lists alone in which what is
-- known of time is enough, it may be that it isn't enough
abbrev pub IsUnsaid : Question → ℕ → Answer EventVerdict Unknown → Type 0
IsUnsaid q word (Clean states) = SomeStores q word
IsUnsaid q word (Found events what states) = Unit {0}
IsUnsaid q word (Hung events states) = SomeStores q word
IsUnsaid q word (Open size) = SomeStores q word ⊎ SomeStops q
IsUnsaid q word (Ended reason) = Unit {0}

-- whether it is said of a word, by an answer
abbrev pub TellsStores : Question → Answer EventVerdict Unknown → ℕ → Bool → Type 0
TellsStores q answer word true = IsUnstored q word answer
TellsStores q answer word false = IsUnsaid q word answer
